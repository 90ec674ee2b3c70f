-- A call that runs alone has one end, and so has the sweeper.
use Rattle.std.proofs.Common.{◌≡◌, ℕ, zero, suc, ◌+◌, List, [], ◌∷◌, None, refl, sym, ap, subst, ◌∙◌}
use Rattle.std.specs.Bool.{⊤}
use Rattle.clay_grid.specs.Shape.{Shape}
use Rattle.store_map.specs.declared.actor.Actor.{Actor}
use Rattle.store_core.specs.Told.{Told}
use Rattle.store_core.specs.Act.{Act, Outcome}
use Rattle.store_core.specs.AtDirectory.{take_garbage}
use Rattle.store_core.specs.Directory.{Directory}
use Rattle.store_core.specs.Lookups.{first_garbage}
use Rattle.store_core.specs.NextAct.{Job, rebuild_job}
use Rattle.store_core.specs.Step.{Places}
use Rattle.store_core.specs.Sweep.{Sweeper, after_taken}
use Rattle.run_laws.specs.State.{first_state}
use Rattle.run_laws.specs.StateActs.{act_of_state}
use Rattle.session_rules.specs.declared.session_answer.LostChunk.{LostChunk}
use Rattle.session_rules.specs.AloneHeals.{rebuild_of, AreRebuilt}
use Rattle.session_rules.specs.Alone.{AtWork, EndsAs, Sweeping, sweep, sweeps}
use Rattle.session_rules.proofs.HealMaps.{one_end, same_end}
use Rattle.session_rules.specs.Serving.{AreSweptTo}

-- what a call has as its outcome, where it is over
abbrev HasEnd : Outcome → Act → Type 0
HasEnd outcome (Act.Finish other) = outcome ≡ other
HasEnd outcome act = ⊤

same_finish : (first second : Outcome) → Act.Finish first ≡ Act.Finish second → first ≡ second
same_finish first second e = subst (HasEnd first) e refl

-- a call that runs alone has one outcome, and leaves the same places
pub same_ends : (g : Shape) (tries : ℕ) (who : Actor) (number : ℕ) (job : Job) (before after other : Places) (first second : Outcome) → EndsAs g tries who number job before first after →
    EndsAs g tries who number job before second other → (first ≡ second) × (after ≡ other)
same_ends g tries who number job before after other first second ends also = (
  same_finish first second
      (sym ends.over
      ∙ ap (λ (w : AtWork). act_of_state g tries job w.call) (one_end g tries who number job ends.made also.made (record { call = first_state; places = before }) first second ends.over also.over) ∙ also.over),
  same_end g tries who number job before after other first second ends also,
)

-- the same rebuilds lead to the same places
pub same_rebuilt : (g : Shape) (tries : ℕ) (who : Actor) (chunks : List LostChunk) (number : ℕ) (before after other : Places) → AreRebuilt g tries who number chunks before after →
    AreRebuilt g tries who number chunks before other → after ≡ other
same_rebuilt g tries who [] number before after other made also = sym made ∙ also
same_rebuilt g tries who (chunk ∷ chunks) number before after other (between, ends, rest) (between_also, ends_also, rest_also) =
    let one : between ≡ between_also = same_end g tries who number (rebuild_job (rebuild_of chunk)) before between between_also Outcome.Rebuilt Outcome.Rebuilt ends ends_also in
    same_rebuilt g tries who chunks (number + 1) between_also after other (subst (λ (q : Places). AreRebuilt g tries who (number + 1) chunks q after) one rest) rest_also

-- ---- the sweeper
abbrev idle : Places → Sweeping
idle p = record { sweeper = Sweeper.Idle; places = p }

module _ (g : Shape) where
  sweeps_stay : (n : ℕ) (p : Places) → first_garbage p.directory ≡ None → sweeps g n (idle p) ≡ idle p
  sweeps_stay zero p clean = refl
  sweeps_stay (suc n) p clean =
      ap (λ found. let r : Directory × Told = take_garbage found p.directory in sweeps g n (record { sweeper = after_taken r.1; places = record p { directory = r.0 } })) clean ∙ sweeps_stay n p clean

  one_sweep : (n m : ℕ) (w : Sweeping) (p q : Places) → sweeps g n w ≡ idle p → sweeps g m w ≡ idle q → first_garbage p.directory ≡ None → first_garbage q.directory ≡ None → idle p ≡ idle q
  one_sweep zero m w p q e also clean still = sym (ap (sweeps g m) e ∙ sweeps_stay m p clean) ∙ also
  one_sweep (suc n) zero w p q e also clean still = sym e ∙ (ap (sweeps g (suc n)) also ∙ sweeps_stay (suc n) q still)
  one_sweep (suc n) (suc m) w p q e also clean still = one_sweep n m (sweep g w) p q e also clean still

  pub same_swept : (before after other : Places) → AreSweptTo g before after → AreSweptTo g before other → after ≡ other
  same_swept before after other swept also =
      ap (λ (w : Sweeping). w.places) (one_sweep swept.made also.made (record { sweeper = Sweeper.Idle; places = before }) after other swept.idle also.idle swept.clean also.clean)
