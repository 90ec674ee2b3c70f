-- Some step, and some note.
use Rattle.store_map.specs.declared.actor.Actor.TheVariants as actor
use Rattle.store_core.specs.Told.{Told}
use Rattle.store_core.specs.Act.{Act, ServerStep}
use Rattle.thread_laws.specs.MadeSteps.{MadeStep}
use Rattle.std.specs.Prelude.{[]}
use Rattle.thread_laws.specs.Noted.{Noted}
use Rattle.thread_laws.specs.ByActors.{no_shortage}

-- they stand for notes that are never made
abbrev pub some_step : MadeStep
some_step = record { actor = actor.Operator; number = 0; shortage = no_shortage; act = Act.AtServer 0 ServerStep.Wipe; answer = Told.Made; moment = 0 }

abbrev pub some_note : Noted
some_note = record { made = some_step; drawn = [] }
