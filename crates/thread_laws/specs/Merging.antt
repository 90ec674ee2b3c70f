-- The law of merging: steps that were made apart, at places and by actors, are a run of the core when they are put in the order of their moments.
use Rattle.std.specs.Prelude.{◌≡◌, ℕ, List, map, Option, None, Some, option_map}
use Rattle.std.specs.List.{slice_get}
use Rattle.store_map.specs.declared.script.Script.{Script}
use Rattle.store_map.specs.declared.actor.Actor.{Actor}
use Rattle.store_map.specs.declared.actor.Actor.TheVariants as actor
use Rattle.store_map.specs.declared.actor.Token.{Token}
use Rattle.store_core.specs.ActPlace.{ActPlace}
use Rattle.store_core.specs.Work.{Work, Calling, client_work, repairer_work}
use Rattle.store_core.specs.Core.{Core, first_core}
use Rattle.store_core.specs.Schedule.{run_core}
use Rattle.thread_laws.specs.MadeSteps.{MadeStep}
use Rattle.thread_laws.specs.AtPlaces.{after_all, directory_next, server_next}
use Rattle.thread_laws.specs.ByActors.{calling_next, sweeper_next}
use Rattle.thread_laws.specs.Lines.{token_of}
use Rattle.thread_laws.specs.Histories.{Histories, StandTwice, GoOn, IsInOrder}

-- how an actor with this work ends
abbrev pub calling_after : Script → List MadeStep → Option Work → Calling → Calling
calling_after script steps None calling = calling
calling_after script steps (Some work) calling = after_all (calling_next script work) steps calling

-- each place and each actor ends as its own list says
pub record EndAs (script : Script) (core : Core) (at : ActPlace → List MadeStep) (of : Actor → List MadeStep) (end : Core) : Type 0 where
  pub directory : end.directory ≡ after_all directory_next (at ActPlace.Directory) core.directory
  pub servers : (j : ℕ) → slice_get end.servers j ≡ option_map (after_all server_next (at (ActPlace.Server j))) (slice_get core.servers j)
  pub clients :
      (i : ℕ) → slice_get end.clients i ≡ option_map (calling_after script (of (actor.Client i)) (slice_get (client_work script) i)) (slice_get core.clients i)
  pub repairers :
      (i : ℕ) →
      slice_get end.repairers i ≡ option_map (calling_after script (of (actor.Repairer i)) (slice_get (repairer_work script) i)) (slice_get core.repairers i)
  pub sweeper : end.sweeper ≡ after_all (sweeper_next script) (of actor.Sweeper) core.sweeper

-- the run of the core that makes these steps
abbrev pub run_of_steps : Script → List MadeStep → Core
run_of_steps script steps = run_core script (map (λ (m : MadeStep). m.shortage) steps) (map token_of steps)

-- the law: whatever list has all steps in the order of their moments, it is a run of the core
abbrev pub Merges : Type 0
Merges =
    (script : Script) (lines : List Token) (h : Histories) (steps : List MadeStep) → StandTwice h → GoOn script lines (first_core script) h.at h.of →
    IsInOrder h steps → EndAs script (first_core script) h.at h.of (run_of_steps script steps)
