-- A call that runs alone, step by step, to its end; and the sweeper after it.
use Rattle.std.specs.Prelude.{◌≡◌, ℕ, zero, suc, false}
use Rattle.clay_grid.specs.Shape.{Shape, chunk_count}
use Rattle.store_map.specs.declared.actor.Actor.{Actor}
use Rattle.store_map.specs.declared.actor.Actor.TheVariants as actor
use Rattle.store_core.specs.Told.{Told}
use Rattle.store_core.specs.Act.{Act, Outcome}
use Rattle.store_core.specs.NextAct.{Job}
use Rattle.store_core.specs.Step.{Places, at_places}
use Rattle.store_core.specs.Sweep.{Sweeper, next_sweep, after_sweep}
use Rattle.run_laws.specs.State.{CallState, first_state}
use Rattle.run_laws.specs.StateActs.{act_of_state}
use Rattle.run_laws.specs.CallLaws.{next_call}

-- where a call stands, and the directory and the servers
pub record AtWork : Type 0 where
  pub call : CallState
  pub places : Places

-- of a call with this number, by this actor, with so many tries
module _ (g : Shape) (tries : ℕ) (who : Actor) (number : ℕ) (job : Job) where
  -- a step by its act, with ample memory; a call that is over makes none
  abbrev pub step_by : Act → AtWork → AtWork
  step_by (Act.Finish outcome) w = w
  step_by act w =
      let after : Places × Told = at_places false who number act w.places in record { call = next_call g job w.call after.1; places = after.0 }

  -- its next step
  abbrev pub step : AtWork → AtWork
  step w = step_by (act_of_state g tries job w.call) w

  -- after so many steps
  abbrev pub steps : ℕ → AtWork → AtWork
  steps zero w = w
  steps (suc n) w = steps n (step w)

  -- from these places it comes to its end with this outcome, and leaves those
  pub record EndsAs (before : Places) (outcome : Outcome) (after : Places) : Type 0 where
    pub made : ℕ
    pub over : act_of_state g tries job (steps made (record { call = first_state; places = before })).call ≡ Act.Finish outcome
    pub leaves : (steps made (record { call = first_state; places = before })).places ≡ after

-- the sweeper and the places
pub record Sweeping : Type 0 where
  pub sweeper : Sweeper
  pub places : Places

-- its next step
abbrev pub sweep : Shape → Sweeping → Sweeping
sweep g w =
    let n : ℕ = chunk_count g in
    let after : Places × Told = at_places false actor.Sweeper 0 (next_sweep n w.sweeper) w.places in
    record { sweeper = after_sweep n w.sweeper after.1; places = after.0 }

-- after so many steps
abbrev pub sweeps : Shape → ℕ → Sweeping → Sweeping
sweeps g zero w = w
sweeps g (suc n) w = sweeps g n (sweep g w)
