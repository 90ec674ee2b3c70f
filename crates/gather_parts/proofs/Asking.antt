-- What a call does next whose gathering is at work.
use Rattle.std.proofs.Common.{◌≡◌, ℕ, true, false, None, Some, refl, sym, ap, true≢false}
use Rattle.std.proofs.lemmas.Option.{none-some, same_Some}
use Rattle.clay_grid.specs.Shape.{Shape}
use Rattle.run_laws.specs.Stage.{Aim, Stage}
use Rattle.call_steps.specs.declared.act.Act.TheVariants as act
use Rattle.call_steps.specs.declared.act.DirectoryAct.TheVariants as there
use Rattle.call_steps.specs.declared.act.ServerAct.{ServerAct}
use Rattle.gathering.specs.Courses.{has_bytes}
use Rattle.gathering.specs.Gathers.{question_at}
use Rattle.gather_parts.specs.Doing.{act_at_stage}

-- a server is asked
pub asks_server : (g : Shape) (aim : Aim) (stage : Stage) (server : ℕ) (step : ServerAct) → Some (server, step) ≡ question_at g aim stage
    → act.Server server step ≡ act_at_stage g aim stage
asks_server g aim (Stage.Asks asking) server step asks = ap (λ (q : ℕ × ServerAct). act.Server q.0 q.1) (same_Some (server, step) _ asks)
asks_server g aim stage server step asks = absurd (none-some (server, step) (sym asks))

-- none is, and its bytes are handed over
pub asks_coder : (g : Shape) (aim : Aim) (stage : Stage) → has_bytes stage ≡ true → act.Coding ≡ act_at_stage g aim stage
asks_coder g aim Stage.HasBytes bytes = refl
asks_coder g aim stage bytes = absurd (true≢false (sym bytes))

-- or it has ended without them
pub asks_nobody : (g : Shape) (aim : Aim) (stage : Stage) → None ≡ question_at g aim stage → has_bytes stage ≡ false
    → act.Directory there.End ≡ act_at_stage g aim stage
asks_nobody g aim (Stage.Asks asking) none bytes = absurd (none-some _ none)
asks_nobody g aim Stage.HasBytes none bytes = absurd (true≢false bytes)
asks_nobody g aim stage none bytes = refl
