-- What is kept of the clients' calls where one of them is changed.
use Rattle.std.proofs.Common.{◌≡◌, ◌⊎◌, inl, inr, ℕ, ◌<◌, zero, suc, List, [], ◌∷◌, length, get_or, Option, None, Some, refl, sym, ap, subst, ◌∙◌, arith}
use Rattle.std.specs.Prelude.{⊤, option_and_then}
use Rattle.std.specs.List.{slice_get}
use Rattle.std.proofs.Math.ListN.{set}
use Rattle.store_core.specs.Act.{Outcome as CoreOutcome}
use Rattle.call_steps.specs.CallOutcomes.{call_outcome_of}
use Rattle.call_steps.specs.declared.outcome.CallOutcome.{CallOutcome}
use Rattle.call_steps.specs.declared.outcome.CallOutcome.TheVariants as ended
use Rattle.call_steps.specs.declared.outcomes.Outcome.{Outcome}
use Rattle.call_steps.specs.declared.outcomes.Outcome.TheVariants as outcome
use Rattle.call_steps.specs.declared.outcomes.RepairOutcome.{RepairOutcome}
use Rattle.call_steps.specs.declared.outcomes.RepairOutcome.TheVariants as repair
use Rattle.call_steps.specs.Outcomes.{outcome_of, repair_outcome_of}
use Rattle.call_steps.specs.declared.caller_calls.EndedCall.{EndedCall}
use Rattle.call_steps.specs.declared.caller_calls.CallerCalls.{CallerCalls}
use Rattle.world_laws.specs.Served.{bytes_in, bytes_of_client, outcome_in, served_in, ended_at}
use Rattle.world_lines.specs.Taken.{KeepsCall}

-- one item of a list is set: another is as it was, and this one is the new one
pub set_cases : {A : Type 0} (xs : List A) (at : ℕ) (x y : A) → at < length xs → x ≡ get_or xs at x → (n : ℕ)
    → (slice_get (set xs at y) n ≡ slice_get xs n) ⊎ ((n ≡ at) × (slice_get xs n ≡ Some x) × (slice_get (set xs at y) n ≡ Some y))
set_cases [] at x y below is n = absurd (omega arith)
set_cases (first ∷ xs) zero x y below is zero = inr (refl, ap Some (sym is), refl)
set_cases (first ∷ xs) zero x y below is (suc n) = inl refl
set_cases (first ∷ xs) (suc at) x y below is zero = inl refl
set_cases (first ∷ xs) (suc at) x y below is (suc n) =
    elim (set_cases xs at x y (omega arith) is n) [
      | inl e ↦ inl e
      | inr h ↦ inr (ap suc h.0, h.1, h.2)
    ]

-- ---- outcomes without bytes
NotServed : CoreOutcome → Type 0
NotServed (CoreOutcome.Served point) = ⊥
NotServed other = ⊤

unserved_client : (o : Outcome) (core : CoreOutcome) → outcome_of o ≡ core → NotServed core → bytes_of_client o ≡ None
unfolding NotServed
unserved_client (outcome.Served point bytes) core e not = absurd (subst NotServed (sym e) not)
unserved_client other core e not = refl

unserved : (o : CallOutcome) (core : CoreOutcome) → call_outcome_of o ≡ core → NotServed core → bytes_in o ≡ None
unserved (ended.Client o) core e not = unserved_client o core e not
unserved (ended.Rebuild o) core e not = refl

rebuild_unserved : (o : RepairOutcome) → NotServed (repair_outcome_of o)
unfolding NotServed
rebuild_unserved repair.Rebuilt = tt
rebuild_unserved repair.Here = tt
rebuild_unserved (repair.Away downs) = tt
rebuild_unserved repair.NoSuch = tt
rebuild_unserved (repair.Superseded newer) = tt
rebuild_unserved (repair.Unavailable stripe missing) = tt
rebuild_unserved (repair.Reaped at) = tt
rebuild_unserved repair.NoMemory = tt

-- bytes that are other than they were were there
client_kept : (x : Outcome) (y : CallOutcome) → call_outcome_of y ≡ outcome_of x → (bytes_in y ≡ bytes_of_client x) ⊎ ((bytes : List ℕ) × (bytes_of_client x ≡ Some bytes))
unfolding NotServed
client_kept (outcome.Served point bytes) y e = inr (bytes.items, refl)
client_kept other y e = inl (unserved y _ e tt)

bytes_kept : (x y : CallOutcome) → call_outcome_of y ≡ call_outcome_of x → (bytes_in y ≡ bytes_in x) ⊎ ((bytes : List ℕ) × (bytes_in x ≡ Some bytes))
bytes_kept (ended.Client x) y e = client_kept x y e
bytes_kept (ended.Rebuild x) y e = inl (unserved y _ e (rebuild_unserved x))

-- ---- calls
-- the same call
pub same_kept : (IsIt : Type 0) (before after : Option EndedCall) → after ≡ before → KeepsCall IsIt before after
same_kept IsIt before after e = record { outcome = ap outcome_in e; bytes = inl (ap served_in e) }

-- a call that ended the same way
pub changed_kept : (IsIt : Type 0) (before after : Option EndedCall) (x y : EndedCall) → IsIt → before ≡ Some x → after ≡ Some y → call_outcome_of y.outcome ≡ call_outcome_of x.outcome
    → KeepsCall IsIt before after
changed_kept IsIt before after x y it was now e =
    record {
      outcome = ap outcome_in now ∙ ap Some e ∙ sym (ap outcome_in was);
      bytes =
          elim (bytes_kept x.outcome y.outcome e) [
            | inl same ↦ inl (ap served_in now ∙ same ∙ sym (ap served_in was))
            | inr had ↦ inr (it, (had.0, ap served_in was ∙ had.1))
          ];
    }

-- where that it is follows from something else
pub kept_by : (IsIt IsThat : Type 0) (before after : Option EndedCall) → (IsIt → IsThat) → KeepsCall IsIt before after → KeepsCall IsThat before after
kept_by IsIt IsThat before after so kept =
    record {
      outcome = kept.outcome;
      bytes =
          elim kept.bytes [
            | inl same ↦ inl same
            | inr had ↦ inr (so had.0, had.1)
          ];
    }

-- one call of a list is changed
pub list_kept : (xs : List EndedCall) (at : ℕ) (x y : EndedCall) → at < length xs → x ≡ get_or xs at x → call_outcome_of y.outcome ≡ call_outcome_of x.outcome
    → (n : ℕ) → KeepsCall (n ≡ at) (slice_get xs n) (slice_get (set xs at y) n)
list_kept xs at x y below is e n =
    elim (set_cases xs at x y below is n) [
      | inl same ↦ same_kept (n ≡ at) _ _ same
      | inr h ↦ changed_kept (n ≡ at) _ _ x y h.0 h.1 h.2 e
    ]

-- one client's calls are
pub clients_kept : (xs : List CallerCalls) (at number : ℕ) (x y : CallerCalls) → at < length xs → x ≡ get_or xs at x
    → ((n : ℕ) → KeepsCall (n ≡ number) (slice_get x.ended.items n) (slice_get y.ended.items n))
    → (i n : ℕ) → KeepsCall ((i ≡ at) × (n ≡ number)) (ended_at xs i n) (ended_at (set xs at y) i n)
clients_kept xs at number x y below is each i n =
    elim (set_cases xs at x y below is i) [
      | inl same ↦ same_kept ((i ≡ at) × (n ≡ number)) _ _ (ap (λ found. option_and_then (λ calls. slice_get calls.ended.items n) found) same)
      | inr h ↦
          let at_it : KeepsCall ((i ≡ at) × (n ≡ number)) (slice_get x.ended.items n) (slice_get y.ended.items n) = kept_by (n ≡ number) ((i ≡ at) × (n ≡ number)) _ _ (λ e. (h.0, e)) (each n) in
          let was : ended_at xs i n ≡ slice_get x.ended.items n = ap (λ found. option_and_then (λ calls. slice_get calls.ended.items n) found) h.1 in
          let now : ended_at (set xs at y) i n ≡ slice_get y.ended.items n = ap (λ found. option_and_then (λ calls. slice_get calls.ended.items n) found) h.2 in
          rw (was, now) at_it
    ]
