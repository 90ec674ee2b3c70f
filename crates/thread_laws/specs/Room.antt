-- A client or a repairer of a valid script can make a step: the count of its steps fits 64 bits.
use Rattle.std.specs.Prelude.{◌≡◌, ◌⊎◌, ℕ, ◌+◌, ◌<◌, ◌^◌, List, Some}
use Rattle.std.specs.List.{slice_get}
use Rattle.clay_grid.specs.Limits.{IsGeometry}
use Rattle.store_map.specs.Naming.{IsValid}
use Rattle.store_map.specs.declared.actor.Actor.{Actor}
use Rattle.store_map.specs.declared.script.Script.{Script}
use Rattle.store_core.specs.ActPlace.{ActPlace}
use Rattle.store_core.specs.Work.{Work, client_work, repairer_work}
use Rattle.thread_laws.specs.MadeSteps.{MadeStep}
use Rattle.world_laws.specs.World.{ActorOf, steps_of}
use Rattle.thread_laws.specs.Measure.{bound_of, HasTargets}
use Rattle.thread_laws.specs.Callers.{IsCalling}

-- the work of a client or of a repairer
abbrev pub IsWorkOf : Script → ℕ → Work → Type 0
IsWorkOf script i work = (slice_get (client_work script) i ≡ Some work) ⊎ (slice_get (repairer_work script) i ≡ Some work)

-- what holds of such work, and of each client or repairer that does it
pub record HasRoom (script : Script) (work : Work) : Type 0 where
  pub targets : HasTargets script work
  pub few : bound_of script work < 2 ^ 42
  pub steps : (who : Actor) (at : ActPlace → List MadeStep) (a : ActorOf) → IsCalling script who work at a → steps_of a.doing + 1 < 2 ^ 64

abbrev pub ActorsHaveRoom : Type 0
ActorsHaveRoom = (script : Script) (i : ℕ) (work : Work) → IsGeometry script.geometry → IsValid script → IsWorkOf script i work → HasRoom script work
