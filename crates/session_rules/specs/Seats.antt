-- When an actor may begin its next call, and that calls which run alone leave it so.
use Rattle.std.specs.Prelude.{◌≡◌, ℕ, ◌+◌, false, List, None}
use Rattle.clay_grid.specs.Shape.{Shape}
use Rattle.store_map.specs.declared.actor.Actor.{Actor}
use Rattle.store_map.specs.declared.call.Call.{Call}
use Rattle.store_map.specs.declared.call.Rebuild.{Rebuild as RebuildCall}
use Rattle.store_core.specs.Act.{Act, Outcome}
use Rattle.store_core.specs.NextAct.{Job, job_of, rebuild_job}
use Rattle.store_core.specs.Directory.{Directory}
use Rattle.store_core.specs.Lookups.{same_actor}
use Rattle.store_core.specs.Conditions.{MayBegin}
use Rattle.store_core.specs.Agreement.{AgreesWithSeat}
use Rattle.store_core.specs.Step.{Shortage, Places}
use Rattle.run_laws.specs.State.{first_state}
use Rattle.run_laws.specs.StateActs.{act_of_state}
use Rattle.session_rules.specs.Alone.{AtWork}
use Rattle.session_rules.specs.Wants.{wanting_steps}

-- the actor is in no call, and may begin one under each number from this one on
abbrev pub MayBeginFrom : Directory → Actor → ℕ → Type 0
MayBeginFrom d who number = AgreesWithSeat d (record { actor = who; unused = number; told = None })

module _ (g : Shape) (tries : ℕ) (who : Actor) (number : ℕ) (job : Job) where
  -- a call of this job after its steps from these places, with memory wanting in them so
  abbrev pub ran : List Shortage → Places → AtWork
  ran shortages before = wanting_steps g tries who number job shortages (record { call = first_state; places = before })

  -- the call is over, with this outcome
  abbrev pub HasEnded : List Shortage → Places → Outcome → Type 0
  HasEnded shortages before outcome = act_of_state g tries job (ran shortages before).call ≡ Act.Finish outcome

  -- what it leaves of its actor's seat and of the others'
  pub record KeepsSeats : Type 0 where
    -- a call that is over has used its number
    pub own :
        (p : Places) (shortages : List Shortage) (outcome : Outcome) → MayBeginFrom p.directory who number → HasEnded shortages p outcome →
        MayBeginFrom (ran shortages p).places.directory who (number + 1)
    -- another's unused numbers stay so, at each step
    pub others :
        (p : Places) (shortages : List Shortage) (other : Actor) (unused : ℕ) → same_actor who other ≡ false →
        MayBeginFrom p.directory other unused → MayBeginFrom (ran shortages p).places.directory other unused

-- so it is of each call of a client and of a repairer
pub record SeatsAreKept : Type 0 where
  pub begins : (d : Directory) (who : Actor) (number : ℕ) → MayBeginFrom d who number → MayBegin d who number
  pub calls : (g : Shape) (tries : ℕ) (who : Actor) (number : ℕ) (call : Call) → KeepsSeats g tries who number (job_of call)
  pub rebuilds : (g : Shape) (tries : ℕ) (who : Actor) (number : ℕ) (call : RebuildCall) → KeepsSeats g tries who number (rebuild_job call)
