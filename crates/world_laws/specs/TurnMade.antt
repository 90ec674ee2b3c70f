-- The step that an actor's turn makes, as a trace has it.
use Rattle.std.specs.Prelude.{Bool, ◌&&◌}
use Rattle.store_map.specs.declared.actor.Actor.{Actor}
use Rattle.store_core.specs.Act.{Act}
use Rattle.store_core.specs.Step.{Places, at_places}
use Rattle.history_laws.specs.Trace.{Made}
use Rattle.call_steps.specs.CallOf.{CallOf, act_of}
use Rattle.call_steps.specs.Ready.{ready}
use Rattle.world_laws.specs.World.{WorldOf}

-- of its call before it, with a coding first if one is due; whether memory was wanting in the coding and in the step
abbrev pub turn_made : Actor → Bool → Bool → CallOf → Places → Made
turn_made who coding short c places =
    let act : Act = act_of (ready coding c) in
    record { who = who; number = c.number; short = c.due && coding; act = act; answer = (at_places short who c.number act places).1 }

-- the places of a world
abbrev pub places_of : WorldOf → Places
places_of w = record { directory = w.directory; servers = w.servers }
