-- The laws of a call that is told its answers step by step: it blames memory only where memory was wanting, and unhindered it is answered.
use Rattle.std.specs.Prelude.{◌≡◌, ℕ, ◌<◌, ◌≤◌, List, length}
use Rattle.clay_grid.specs.Shape.{Shape}
use Rattle.store_core.specs.Told.{Told}
use Rattle.store_core.specs.Act.{Act, Outcome}
use Rattle.store_core.specs.Bounds.{step_bound}
use Rattle.run_laws.specs.GatherLaws.{Tells}
use Rattle.store_core.specs.NextAct.{Job, next_act}
use Rattle.run_laws.specs.OutcomeLaws.{IsOutcomeOf, HasCauseInSteps, IsAnswer, IsUnhindered}
use Rattle.run_laws.specs.StepLaws.{HasTarget}
use Rattle.run_laws.specs.ToldInSteps.{AreTold, act_after}

-- a call that ends with NoMemory was told so
abbrev pub MemoryWasWanting : Type 0
MemoryWasWanting =
    (g : Shape) (max tries : ℕ) (job : Job) (answers : List Told) → AreTold g max tries job answers →
    act_after g tries job answers ≡ Act.Finish Outcome.NoMemory → Tells (λ answer. answer ≡ Told.Short) answers

-- how a call ends, and when
pub record OutcomesInSteps (g : Shape) (max tries : ℕ) (job : Job) : Type 0 where
  -- with an outcome of its kind, whatever it was told
  pub kinds : (told : List Told) (outcome : Outcome) → next_act g tries job told ≡ Act.Finish outcome → IsOutcomeOf job.note.kind outcome
  -- for a cause among its answers
  pub causes :
      (answers : List Told) (outcome : Outcome) → 0 < g.parity_count → AreTold g max tries job answers → act_after g tries job answers ≡ Act.Finish outcome →
      HasCauseInSteps g tries job outcome answers
  -- with an answer, where nothing hindered it
  pub answered :
      (answers : List Told) (outcome : Outcome) → 0 < g.parity_count → AreTold g max tries job answers → act_after g tries job answers ≡ Act.Finish outcome →
      IsUnhindered g tries job answers → IsAnswer outcome
  -- after no more answers than its bound of steps, where memory was ample
  pub few :
      (answers : List Told) → HasTarget g job → AreTold g max tries job answers → (Tells (λ answer. answer ≡ Told.Short) answers → ⊥) →
      length answers ≤ step_bound g max tries job.note
