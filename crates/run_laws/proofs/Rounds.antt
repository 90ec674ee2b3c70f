-- A drain goes round by round.
use Rattle.std.proofs.Common.{◌≡◌, ℕ, zero, suc, ◌+◌, ◌<◌, ◌≤◌, Bool, true, false, List, refl, sym, ap, ◌∙◌, inl, inr, ◌⊎◌, arith, true≢false}
use Rattle.store_map.specs.declared.script.Script.{Script}
use Rattle.store_core.specs.Fuel.{fuel_of}
use Rattle.store_core.specs.Run.{Run}
use Rattle.store_core.specs.Schedule.{is_unfinished, round, drain_by, drain}
use Rattle.store_core.specs.Step.{Shortage}
use Rattle.run_laws.specs.RoundLaws.{rounds, rounds_by, rounds_left, GoesByRounds, DrainsGoByRounds}
use Rattle.run_laws.proofs.Drains.{start, State, run_state, round_moves, round_state}
use Rattle.run_laws.proofs.Runs.{CanRun, measure}
use Rattle.run_laws.proofs.RunsSound.{first_kept}
use Rattle.run_laws.proofs.Scripts.{can_run, measure_fits}

module _ (script : Script) (shortages : List Shortage) (can : CanRun script) where
  abbrev Kept : Run → Type 0
  Kept run = State script shortages can run

  -- a round lowers the measure where somebody has a step
  lowers : (run : Run) → Kept run → is_unfinished script run.core ≡ true → measure script (round script run).core < measure script run.core
  lowers run state busy = by (round_moves script shortages can run state)
    where
      by : (measure script (round script run).core < measure script run.core) ⊎ ((round script run ≡ run) × (is_unfinished script run.core ≡ false)) → measure script (round script run).core < measure script run.core
      by (inl less) = less
      by (inr same) = absurd (true≢false (sym busy ∙ same.1))

  -- ---- a drain with enough fuel is the drain with more
  Same : ℕ → ℕ → Run → Type 0
  Same f g run = (drain_by f script run ≡ drain_by g script run) × (rounds_by f script run ≡ rounds_by g script run)

  -- where nobody has a step
  over_by : (f : ℕ) (run : Run) → is_unfinished script run.core ≡ false → (drain_by f script run ≡ run) × (rounds_by f script run ≡ 0)
  over_by zero run e = (refl, refl)
  over_by (suc f) run e = (
    ap (λ b. elim b [ true ↦ drain_by f script (round script run) | false ↦ run ]) e,
    ap (λ b. elim b [ true ↦ suc (rounds_by f script (round script run)) | false ↦ 0 ]) e,
  )

  -- and where somebody has one
  busy_by : (f : ℕ) (run : Run) → is_unfinished script run.core ≡ true
      → (drain_by (suc f) script run ≡ drain_by f script (round script run)) × (rounds_by (suc f) script run ≡ suc (rounds_by f script (round script run)))
  busy_by f run e = (
    ap (λ b. elim b [ true ↦ drain_by f script (round script run) | false ↦ run ]) e,
    ap (λ b. elim b [ true ↦ suc (rounds_by f script (round script run)) | false ↦ 0 ]) e,
  )

  same_fuel : (f g : ℕ) (run : Run) → Kept run → measure script run.core ≤ f → measure script run.core ≤ g → Same f g run
  unfolding Same
  same_fuel zero g run state low high = by (is_unfinished script run.core) refl
    where
      by : (b : Bool) → is_unfinished script run.core ≡ b → (drain_by zero script run ≡ drain_by g script run) × (rounds_by zero script run ≡ rounds_by g script run)
      by true e = let less : measure script (round script run).core < measure script run.core = lowers run state e in absurd (omega (arith, less, low))
      by false e = (sym (over_by g run e).0, sym (over_by g run e).1)
  same_fuel (suc f) zero run state low high = by (is_unfinished script run.core) refl
    where
      by : (b : Bool) → is_unfinished script run.core ≡ b → (drain_by (suc f) script run ≡ drain_by zero script run) × (rounds_by (suc f) script run ≡ rounds_by zero script run)
      by true e = let less : measure script (round script run).core < measure script run.core = lowers run state e in absurd (omega (arith, less, high))
      by false e = over_by (suc f) run e
  same_fuel (suc f) (suc g) run state low high = by (is_unfinished script run.core) refl (same_fuel f g (round script run) (round_state script shortages can run state))
    where
      by : (b : Bool) → is_unfinished script run.core ≡ b
          → (measure script (round script run).core ≤ f → measure script (round script run).core ≤ g
          → (drain_by f script (round script run) ≡ drain_by g script (round script run)) × (rounds_by f script (round script run) ≡ rounds_by g script (round script run)))
          → (drain_by (suc f) script run ≡ drain_by (suc g) script run) × (rounds_by (suc f) script run ≡ rounds_by (suc g) script run)
      by true e rest =
          let less : measure script (round script run).core < measure script run.core = lowers run state e in
          let next : (drain_by f script (round script run) ≡ drain_by g script (round script run)) × (rounds_by f script (round script run) ≡ rounds_by g script (round script run)) =
          rest (omega (arith, less, low)) (omega (arith, less, high)) in
          ((busy_by f run e).0 ∙ next.0 ∙ sym (busy_by g run e).0, (busy_by f run e).1 ∙ ap suc next.1 ∙ sym (busy_by g run e).1)
      by false e rest = ((over_by (suc f) run e).0 ∙ sym (over_by (suc g) run e).0, (over_by (suc f) run e).1 ∙ sym (over_by (suc g) run e).1)

  -- ---- the laws
  goes_on : (run : Run) → Kept run → is_unfinished script run.core ≡ true → (fuel : ℕ) → measure script run.core ≤ fuel
      → (drain_by fuel script run ≡ drain script (round script run)) × (rounds_by fuel script run ≡ rounds_left script (round script run) + 1)
  unfolding Same
  goes_on run state e zero enough = let less : measure script (round script run).core < measure script run.core = lowers run state e in absurd (omega (arith, less, enough))
  goes_on run state e (suc f) enough =
      let less : measure script (round script run).core < measure script run.core = lowers run state e in
      let next : Kept (round script run) = round_state script shortages can run state in
      let same : (drain_by f script (round script run) ≡ drain script (round script run)) × (rounds_by f script (round script run) ≡ rounds_left script (round script run)) =
      same_fuel f (fuel_of script (round script run).core) (round script run) next (omega (arith, less, enough)) (measure_fits script (round script run).core can.tried next.keeps) in
      let one : suc (rounds_left script (round script run)) ≡ rounds_left script (round script run) + 1 = omega arith in
      ((busy_by f run e).0 ∙ same.0, (busy_by f run e).1 ∙ ap suc same.1 ∙ one)

  few_by : (f : ℕ) (run : Run) → rounds_by f script run ≤ f
  few_by zero run = omega arith
  few_by (suc f) run = by (is_unfinished script run.core) (few_by f (round script run))
    where
      by : (b : Bool) → rounds_by f script (round script run) ≤ f → elim b [ true ↦ suc (rounds_by f script (round script run)) | false ↦ 0 ] ≤ suc f
      by true h = omega (arith, h)
      by false h = omega arith

  by_rounds : (run : Run) → Kept run → GoesByRounds script run
  by_rounds run state =
      record {
        over = over_by (fuel_of script run.core) run;
        goes_on = λ e. goes_on run state e (fuel_of script run.core) (measure_fits script run.core can.tried state.keeps);
        few = few_by (fuel_of script run.core) run;
      }

  rounds_kept : (n : ℕ) (run : Run) → Kept run → Kept (rounds n script run)
  rounds_kept zero run state = state
  rounds_kept (suc n) run state = round_state script shortages can (rounds n script run) (rounds_kept n run state)

pub drains_go_by_rounds : DrainsGoByRounds
drains_go_by_rounds script shortages geometry valid tokens n =
    let can : CanRun script = can_run script geometry valid in
    by_rounds script shortages can _ (rounds_kept script shortages can n _ (run_state script shortages can tokens (start script shortages can) (first_kept script can)))
