-- How a call ends that is told its answers step by step.
use Rattle.std.proofs.Common.{◌≡◌, ℕ, ◌+◌, ◌<◌, ◌≤◌, ◌⊎◌, List, [], ◌∷◌, length, fold, inl, inr, refl, sym, ap, subst, arith}
use Rattle.clay_grid.specs.Shape.{Shape}
use Rattle.store_core.specs.Told.{Told}
use Rattle.store_core.specs.Note.{Kind}
use Rattle.store_core.specs.Act.{Act, Outcome}
use Rattle.store_core.specs.Bounds.{step_bound}
use Rattle.run_laws.specs.CallLeft.{call_left}
use Rattle.run_laws.specs.CauseLaws.{Replies, PinsAt, IsPlacement, TargetHasIt, IsToldAway, changes_of, HasCause, IsCaused}
use Rattle.run_laws.specs.GatherLaws.{Tells}
use Rattle.run_laws.specs.MemoryCauses.{MemoryWasWanting, OutcomesInSteps}
use Rattle.store_core.specs.NextAct.{Job, next_by, next_act}
use Rattle.run_laws.specs.OutcomeLaws.{IsOutcomeOf, HasCauseInSteps, IsAnswer, IsUnhindered}
use Rattle.store_core.specs.Tell.{tell}
use Rattle.run_laws.specs.StepLaws.{HasTarget}
use Rattle.run_laws.specs.ToldInSteps.{IsToldNext, AreToldSince, AreTold, act_after}
use Rattle.run_laws.proofs.CallLosses.{was_told_of_loss}
use Rattle.run_laws.proofs.Carried.{AnyTells, tells_carried, told_back}
use Rattle.run_laws.proofs.Causes.{causes}
use Rattle.run_laws.proofs.FirstAnswers.{target_first}
use Rattle.run_laws.proofs.FirstAway.{target_away}
use Rattle.run_laws.proofs.InSteps.{short_was_told}
use Rattle.run_laws.proofs.StageOutcomes.{IsFine, ActIsFine, call_holds, all_free}
use Rattle.run_laws.proofs.Steps.{steps_fall}
use Rattle.run_laws.proofs.Tries.{all_tries_lost}

pub memory_was_wanting : MemoryWasWanting
memory_was_wanting g max tries job answers told e = short_was_told g max tries job answers told e

-- ---- an outcome of the call's kind
fine_kind : (kind : Kind) (outcome : Outcome) → IsFine kind 0 0 (Unit {0}) outcome → IsOutcomeOf kind outcome
fine_kind kind Outcome.NoMemory h = tt
fine_kind kind outcome h = h

outcome_kind : (g : Shape) (tries : ℕ) (job : Job) (told : List Told) (outcome : Outcome) → next_act g tries job told ≡ Act.Finish outcome → IsOutcomeOf job.note.kind outcome
outcome_kind g tries job told outcome e =
    let kind : Kind = job.note.kind in
    fine_kind kind outcome
    (subst (ActIsFine kind 0 0 (Unit {0})) e (call_holds 0 0 (Unit {0}) g kind tries job told (all_free kind 0 0 (next_by kind g tries job) told)))

-- ---- its cause
abbrev IsNoEntry : Told → Type 0
IsNoEntry Told.Gathered = ⊥
IsNoEntry _ = Unit {0}

module _ (g : Shape) (max tries : ℕ) (job : Job) (some : 0 < g.parity_count) (answers : List Told) where
  abbrev kept : List Told
  kept = fold (tell g job) [] answers

  -- what some kept answer is some answer is
  back : (P : Told → Type 0) → (P Told.Gathered → ⊥) → Tells P kept → Tells P answers
  back P never h = told_back (Unit {0}) (AnyTells P) (tells_carried P never) g some job [] answers tt h

  back_same : (this : Told) → IsNoEntry this → Tells (λ answer. answer ≡ this) kept → Tells (λ answer. answer ≡ this) answers
  back_same this other h = back (λ answer. answer ≡ this) (λ e. subst IsNoEntry (sym e) other) h

  cause_back : (outcome : Outcome) → AreTold g max tries job answers → act_after g tries job answers ≡ Act.Finish outcome → HasCause g tries outcome kept
      → HasCauseInSteps g tries job outcome answers
  cause_back (Outcome.Answered point given) told e h = back (Replies point given) (λ never. never) h
  cause_back (Outcome.Served point) told e h = (back (PinsAt point) (λ never. never) h.0, back_same Told.Ended tt h.1)
  cause_back Outcome.Rebuilt told e h = (back IsPlacement (λ never. never) h.0, back_same Told.Ended tt h.1)
  cause_back Outcome.Here told e h = (there h.0, back_same Told.Ended tt h.1)
    where
      there : TargetHasIt kept ⊎ Tells (λ answer. answer ≡ Told.AlreadyThere) kept → TargetHasIt answers ⊎ Tells (λ answer. answer ≡ Told.AlreadyThere) answers
      there (inl first) = inl (target_first g job [] answers first)
      there (inr later) = inr (back_same Told.AlreadyThere tt later)
  cause_back (Outcome.Away downs) told e h = (there h.0, back_same Told.Ended tt h.1)
    where
      there : IsToldAway downs kept → IsToldAway downs answers
      there (inl first) = inl (target_away g job downs [] answers first)
      there (inr later) = inr (back_same (Told.Away downs) tt later)
  cause_back Outcome.NoSuch told e h = back_same Told.NoSuch tt h
  cause_back (Outcome.Superseded newer) told e h = back_same (Told.Superseded newer) tt h
  cause_back (Outcome.Unavailable stripe missing) told e h = ((h.0, back_same Told.Ended tt h.1), was_told_of_loss g tries job some stripe missing answers e)
  cause_back (Outcome.Contended pairs) told e h =
      all_tries_lost g tries job max (outcome_kind g tries job kept (Outcome.Contended pairs) e) answers pairs some told e
  cause_back (Outcome.Reaped point) told e h = back_same (Told.Reaped point) tt h
  cause_back Outcome.NoMemory told e h = short_was_told g max tries job answers told e

  step_cause : (outcome : Outcome) → AreTold g max tries job answers → act_after g tries job answers ≡ Act.Finish outcome → HasCauseInSteps g tries job outcome answers
  step_cause outcome told e = cause_back outcome told e (subst (IsCaused g tries kept) e (causes g tries job kept some))

  -- ---- a call that nothing hindered
  too_few : (pairs changes : List (ℕ × ℕ)) → pairs ≡ changes → length pairs ≡ tries → length changes < tries → ⊥
  too_few pairs changes same all few = let n : length pairs ≡ length changes = ap length same in absurd (omega (arith, n, all, few))

  unhindered : (outcome : Outcome) → IsOutcomeOf job.note.kind outcome → HasCauseInSteps g tries job outcome answers → IsUnhindered g tries job answers → IsAnswer outcome
  unhindered (Outcome.Unavailable stripe missing) kind h free = free.chunks stripe missing h.1
  unhindered (Outcome.Contended pairs) kind h free = too_few pairs (changes_of answers) h.0 h.1 (free.tries_left kind)
  unhindered (Outcome.Reaped point) kind h free = free.reaped point h
  unhindered Outcome.NoMemory kind h free = free.memory h
  unhindered (Outcome.Away downs) kind h free = free.target downs kind h.0
  unhindered outcome kind h free = tt

-- ---- how many answers there are where memory is ample
module _ (g : Shape) (max tries : ℕ) (job : Job) (target : HasTarget g job) where
  falls_next : (told : List Told) (answer : Told) → IsToldNext g max tries job told answer → (answer ≡ Told.Short → ⊥)
      → call_left g max tries job (tell g job told answer) < call_left g max tries job told
  falls_next told Told.Short h ample = absurd (ample refl)
  falls_next told answer h ample = (steps_fall g max tries job).falls told answer target h.0

  few_since : (told answers : List Told) → AreToldSince g max tries job told answers → (Tells (λ answer. answer ≡ Told.Short) answers → ⊥)
      → length answers + call_left g max tries job (fold (tell g job) told answers) ≤ call_left g max tries job told
  few_since told [] h ample = omega arith
  few_since told (answer ∷ more) h ample =
      let now : List Told = tell g job told answer in
      let fell : call_left g max tries job now < call_left g max tries job told = falls_next told answer h.0 (λ e. ample (inl e)) in
      let rest : length more + call_left g max tries job (fold (tell g job) now more) ≤ call_left g max tries job now =
      few_since now more h.1 (λ later. ample (inr later)) in
      omega (arith, fell, rest)

  few_answers : (answers : List Told) → AreTold g max tries job answers → (Tells (λ answer. answer ≡ Told.Short) answers → ⊥)
      → length answers ≤ step_bound g max tries job.note
  few_answers answers told ample =
      let all : length answers + call_left g max tries job (fold (tell g job) [] answers) ≤ call_left g max tries job [] = few_since [] answers told ample in
      let first : call_left g max tries job [] ≤ step_bound g max tries job.note = (steps_fall g max tries job).first in
      omega (arith, all, first)

pub outcomes_in_steps : (g : Shape) (max tries : ℕ) (job : Job) → OutcomesInSteps g max tries job
outcomes_in_steps g max tries job =
    record {
      kinds = outcome_kind g tries job;
      causes = λ answers outcome some told e. step_cause g max tries job some answers outcome told e;
      answered = λ answers outcome some told e free.
          unhindered g max tries job some answers outcome (outcome_kind g tries job (fold (tell g job) [] answers) outcome e)
          (step_cause g max tries job some answers outcome told e) free;
      few = λ answers target told ample. few_answers g max tries job target answers told ample;
    }
