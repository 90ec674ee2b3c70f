-- A small run by moments with want of memory: a client's put finds none for its coding, while another client asks for the object.
use Rattle.std.specs.Prelude.{◌≡◌, ℕ, true, false, List, [], ◌∷◌, None, codes}
use Rattle.store_map.specs.declared.script.Script.{Script}
use Rattle.store_map.specs.declared.call.Call.{Call}
use Rattle.store_map.specs.declared.call.Call.TheVariants as call
use Rattle.store_map.specs.declared.content.Content.TheVariants as content
use Rattle.store_map.specs.declared.reply.Reply.TheVariants as reply
use Rattle.store_map.specs.declared.actor.Actor.{Actor}
use Rattle.store_map.specs.declared.actor.Actor.TheVariants as actor
use Rattle.store_core.specs.Told.{Told}
use Rattle.store_core.specs.Act.{Act, DirectoryStep}
use Rattle.store_core.specs.ActPlace.{ActPlace}
use Rattle.store_core.specs.Note.{note_of}
use Rattle.store_core.specs.Step.{Shortage}
use Rattle.store_core.specs.Core.{first_core}
use Rattle.thread_laws.specs.MadeSteps.{MadeStep}
use Rattle.thread_laws.specs.ByActors.{no_shortage}
use Rattle.thread_laws.specs.Histories.{GoOn}
use Rattle.thread_laws.specs.Merging.{run_of_steps}
use Rattle.thread_laws.specs.InOrder.{in_order}
use Rattle.thread_laws.specs.StatsExample.{two_stats, list_at}

-- eight bytes
abbrev pub the_put : Call
the_put = call.Put (codes "a") (content.Hex (1 ∷ 0 ∷ 0 ∷ 0 ∷ 0 ∷ 0 ∷ 0 ∷ 0 ∷ []))

-- the script
abbrev pub short_put : Script
short_put =
    record two_stats {
      clients = record { calls = the_put ∷ []; leave = None } ∷ record { calls = call.Stat (codes "a") ∷ []; leave = None } ∷ [];
      schedule = [];
    }

-- a step of the put
abbrev pub put_step : Shortage → DirectoryStep → Told → ℕ → MadeStep
put_step shortage step answer moment = record { actor = actor.Client 0; number = 0; shortage = shortage; act = Act.AtDirectory step; answer = answer; moment = moment }

abbrev pub looks : MadeStep
looks = put_step no_shortage (DirectoryStep.Look (note_of the_put)) (Told.Ready None 0 []) 1

abbrev pub draws : MadeStep
draws = put_step no_shortage DirectoryStep.Draw (Told.Versions (0 ∷ [])) 2

-- the other client's step
abbrev pub asks : MadeStep
asks = record { actor = actor.Client 1; number = 0; shortage = no_shortage; act = Act.AtDirectory (DirectoryStep.Look (note_of (call.Stat (codes "a")))); answer = Told.Answer 0 reply.NoSuch; moment = 3 }

-- the put ends its pass in place of a prepare
abbrev pub gives_up : MadeStep
gives_up = put_step (record { coding = true; step = false }) DirectoryStep.End Told.Ended 4

-- the lists of actors and places
abbrev pub short_of : Actor → List MadeStep
short_of (actor.Client i) = list_at ((looks ∷ draws ∷ gives_up ∷ []) ∷ (asks ∷ []) ∷ []) i
short_of (actor.Repairer i) = []
short_of actor.Sweeper = []
short_of actor.Operator = []

abbrev pub short_at : ActPlace → List MadeStep
short_at ActPlace.Directory = looks ∷ draws ∷ asks ∷ gives_up ∷ []
short_at (ActPlace.Server j) = []

-- the lists go on from the first core, and the run by moments ends with no pass
pub record ShortMerges : Type 0 where
  pub go : GoOn short_put [] (first_core short_put) short_at short_of
  pub order : in_order short_put (record { at = short_at; of = short_of }) ≡ looks ∷ draws ∷ asks ∷ gives_up ∷ []
  pub passes : (run_of_steps short_put (looks ∷ draws ∷ asks ∷ gives_up ∷ [])).directory.passes ≡ []
