-- How often each actor's calls are among some, one call more.
use Rattle.std.proofs.Common.{◌≡◌, ℕ, ◌+◌, Bool, true, false, cond, nat_eq, List, ◌∷◌, refl, ap, ◌∙◌, Option, Some, arith}
use Rattle.std.specs.Prelude.{nat_le, unwrap_or, count_by}
use Rattle.std.proofs.lemmas.Bool.{eqb-true, false≢true}
use Rattle.std.proofs.lemmas.List.Sums.{sum_by-cons}
use Rattle.store_map.specs.declared.call_name.CallName.{CallName}
use Rattle.store_map.specs.declared.call_name.CallName.TheVariants.{Client, Repairer}
use Rattle.store_map.specs.declared.script.Script.{Script}
use Rattle.hist_rules.specs.Calls.{same_actor}
use Rattle.hist_rules.specs.Counts.{reaps}
use Rattle.hist_rules.specs.First.{unless}
use Rattle.hist_rules.specs.GivenUp.{is_reaped}
use Rattle.hist_rules.specs.declared.verdict.Verdict.TheVariants.{BadCause}

same_turned : (one other third : CallName) → same_actor one other ≡ true → same_actor one third ≡ same_actor other third
same_turned (Client a) (Client b) (Client c) e = ap (λ (n : ℕ). nat_eq n c.client) (eqb-true a.client b.client e)
same_turned (Client a) (Client b) (Repairer c) e = refl
same_turned (Repairer a) (Repairer b) (Repairer c) e = ap (λ (n : ℕ). nat_eq n c.repairer) (eqb-true a.repairer b.repairer e)
same_turned (Repairer a) (Repairer b) (Client c) e = refl
same_turned (Client a) (Repairer b) third e = absurd (false≢true e)
same_turned (Repairer a) (Client b) third e = absurd (false≢true e)

-- calls of one actor are counted alike
counted_alike : (one other : CallName) (before : List CallName) → same_actor one other ≡ true → count_by (same_actor one) before ≡ count_by (same_actor other) before
counted_alike one other before e = ap (λ (test : CallName → Bool). count_by test before) (λ i third. same_turned one other third e i)

one_if : Bool → ℕ
one_if b = cond b 1 0

count_cons : (test : CallName → Bool) (call : CallName) (before : List CallName) → count_by test (call ∷ before) ≡ cond (test call) 1 0 + count_by test before
count_cons test call before = sum_by-cons (λ (x : CallName). cond (test x) 1 0) call before

pub counted_more : (old new : CallName → Option ℕ) (before : List CallName) (call : CallName) (count : ℕ)
    → ((other : CallName) → unwrap_or (old other) 0 ≡ count_by (same_actor other) before)
    → count ≡ unwrap_or (old call) 0 + 1
    → ((other : CallName) → new other ≡ cond (same_actor other call) (Some count) (old other))
    → (other : CallName) → unwrap_or (new other) 0 ≡ count_by (same_actor other) (call ∷ before)
counted_more old new before call count so_far is added other = by (same_actor other call) refl
  where
    by : (b : Bool) → same_actor other call ≡ b → unwrap_or (new other) 0 ≡ count_by (same_actor other) (call ∷ before)
    by true e =
        let value : unwrap_or (new other) 0 ≡ count = ap (λ (o : Option ℕ). unwrap_or o 0) (added other ∙ ap (λ (b : Bool). cond b (Some count) (old other)) e) in
        let alike = counted_alike other call before e in
        let more : count_by (same_actor other) (call ∷ before) ≡ 1 + count_by (same_actor other) before =
        count_cons (same_actor other) call before ∙ ap (λ (b : Bool). cond b 1 0 + count_by (same_actor other) before) e in
        omega (arith, value, is, so_far call, alike, more)
    by false e =
        let value : unwrap_or (new other) 0 ≡ unwrap_or (old other) 0 = ap (λ (o : Option ℕ). unwrap_or o 0) (added other ∙ ap (λ (b : Bool). cond b (Some count) (old other)) e) in
        let more : count_by (same_actor other) (call ∷ before) ≡ 0 + count_by (same_actor other) before =
        count_cons (same_actor other) call before ∙ ap (λ (b : Bool). cond b 1 0 + count_by (same_actor other) before) e in
        omega (arith, value, so_far other, more)

-- the rule on one call, by its counts
pub reaped_by : (script : Script) (before : List CallName) (call : CallName) (count asked : ℕ) → count ≡ count_by (same_actor call) before → asked ≡ reaps script call
    → unless (nat_le (count + 1) asked) (BadCause call asked (count + 1)) ≡ is_reaped script before call
reaped_by script before call count asked is allowed i = unless (nat_le (is i + 1) (allowed i)) (BadCause call (allowed i) (is i + 1))
