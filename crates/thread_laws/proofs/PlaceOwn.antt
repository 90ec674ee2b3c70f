-- The entries of a number, and the steps of its actor.
use Rattle.std.proofs.Common.{◌≡◌, ℕ, ◌+◌, ◌<◌, ◌≤◌, ◌==◌, ◌≢◌, true≢false, Bool, true, false, cond, List, [], ◌∷◌, ◌++◌, map, filter, refl, sym, ap, subst, ◌∙◌, arith, eq-eqb, eqb-true, nat_lt, nat_eq, append_assoc}
use Rattle.std.proofs.lemmas.List.Elements.{All-head, All-tail, filter-append}
use Rattle.std.specs.Prelude.{All}
use Rattle.std.proofs.lemmas.Bool.{ltb-false}
use mathlib.Core.List.{IsPrefix}
use Rattle.store_map.specs.declared.actor.Actor.{Actor}
use Rattle.store_map.specs.declared.actor.Actor.TheVariants as actor
use Rattle.store_core.specs.Lookups.{same_actor}
use Rattle.run_laws.proofs.Passes.{same_is}
use Rattle.run_laws.proofs.Beside.{self_actor}
use Rattle.thread_laws.specs.MadeSteps.{MadeStep, is_by}
use Rattle.turn_lock.specs.History.{Among, has_number, entries_of, GoesOn}
use Rattle.thread_laws.specs.Numbers.{Counts, actor_at, IsTurnOf}

-- ---- histories
module _ {E : Type 0} where
  -- of its number there is one entry more
  pub one_more : (number : ℕ) (numbers : List ℕ) (seen log : List (ℕ × E)) (entry : E) → Among number numbers → GoesOn numbers seen log
      → entries_of number (log ++ (number, entry) ∷ []) ≡ entries_of number seen ++ (number, entry) ∷ []
  one_more number numbers seen log entry among goes =
      filter-append (has_number number) log ((number, entry) ∷ [])
      ∙ (ap (λ b. entries_of number log ++ cond {A = List (ℕ × E)} b ((number, entry) ∷ []) []) (eq-eqb number number refl)
      ∙ ap (λ (l : List (ℕ × E)). l ++ (number, entry) ∷ []) (goes.1 number among))

  pub prefix_more : (seen log more : List (ℕ × E)) → IsPrefix seen log → IsPrefix seen (log ++ more)
  prefix_more seen log more p = (p.0 ++ more, sym (append_assoc seen p.0 more) ∙ ap (λ (l : List (ℕ × E)). l ++ more) p.1)

-- ---- numbers
-- the number of an actor's turn
abbrev number_of : Counts → Actor → ℕ
number_of of (actor.Client i) = i
number_of of (actor.Repairer i) = of.clients + i
number_of of actor.Sweeper = of.clients + of.repairers
number_of of actor.Operator = of.clients + of.repairers + 1

cond_by : {A : Type 0} (P : A → Type 0) (b : Bool) (x y : A) → (b ≡ true → P x) → (b ≡ false → P y) → P (cond {A = A} b x y)
cond_by P true x y f g = f refl
cond_by P false x y f g = g refl

not_equal : (a b : ℕ) → nat_eq a b ≡ false → a ≢ b
not_equal a b e same = true≢false (sym (eq-eqb a b same) ∙ e)

last : (n k : ℕ) → k ≤ n → n ≢ k → n < k + 2 → k + 1 ≡ n
last n k le ne below = omega (arith, le, ne, below)

number_is : (of : Counts) (n : ℕ) → n < of.clients + of.repairers + 2 → number_of of (actor_at of n) ≡ n
number_is of n below =
    cond_by (λ a. number_of of a ≡ n) (nat_lt n of.clients) _ _ (λ _. refl)
    (λ past. cond_by (λ a. number_of of a ≡ n) (nat_lt n (of.clients + of.repairers)) _ _ (λ within. omega (arith, ltb-false n of.clients past))
    (λ after. cond_by (λ a. number_of of a ≡ n) (nat_eq n (of.clients + of.repairers)) _ _ (λ e. sym (eqb-true n (of.clients + of.repairers) e)) (λ e. last n (of.clients + of.repairers) (ltb-false n (of.clients + of.repairers) after) (not_equal n (of.clients + of.repairers) e) below)))

same_bools : (a b : Bool) → (a ≡ true → b ≡ true) → (b ≡ true → a ≡ true) → a ≡ b
same_bools true b f g = sym (f refl)
same_bools false true f g = g refl
same_bools false false f g = refl

-- two turns are of one actor where their numbers are one
same_turn : (of : Counts) (n k : ℕ) (a b : Actor) → IsTurnOf of n a → IsTurnOf of k b → same_actor a b ≡ (k == n)
same_turn of n k a b p q =
    same_bools (same_actor a b) (k == n)
    (λ same.
    let one : actor_at of k ≡ actor_at of n = sym q.whose ∙ (sym (same_is a b same) ∙ p.whose) in
    eq-eqb k n (sym (number_is of k q.below) ∙ (ap (number_of of) one ∙ number_is of n p.below)))
    (λ e.
    let one : a ≡ b = p.whose ∙ (ap (actor_at of) (sym (eqb-true k n e)) ∙ sym q.whose) in
    subst (λ x. same_actor a x ≡ true) one (self_actor a))

-- ---- the steps of entries of some kind
module _ {E : Type 0} (step_of : E → MadeStep) where
  abbrev all_steps : List (ℕ × E) → List MadeStep
  all_steps log = map (λ (entry : ℕ × E). step_of entry.1) log

  one_steps : (a b : Bool) (entry : ℕ × E) (steps : List MadeStep) (log : List (ℕ × E)) → a ≡ b → steps ≡ all_steps log
      → cond {A = List MadeStep} a (step_of entry.1 ∷ steps) steps ≡ all_steps (cond {A = List (ℕ × E)} b (entry ∷ log) log)
  one_steps true true entry steps log e tail = ap (λ (l : List MadeStep). step_of entry.1 ∷ l) tail
  one_steps false false entry steps log e tail = tail
  one_steps true false entry steps log e tail = absurd (true≢false e)
  one_steps false true entry steps log e tail = absurd (true≢false (sym e))

  -- the steps of an actor are those of its number's entries
  pub own_steps : (of : Counts) (number : ℕ) (who : Actor) → IsTurnOf of number who → (log : List (ℕ × E)) → All (λ (entry : ℕ × E). IsTurnOf of entry.0 (step_of entry.1).actor) log
      → filter (is_by who) (all_steps log) ≡ all_steps (entries_of number log)
  own_steps of number who its [] turns = refl
  own_steps of number who its (entry ∷ log) turns =
      one_steps (is_by who (step_of entry.1)) (has_number number entry) entry (filter (is_by who) (all_steps log)) (entries_of number log)
      (same_turn of number entry.0 who (step_of entry.1).actor its (All-head (λ (e : ℕ × E). IsTurnOf of e.0 (step_of e.1).actor) entry log turns))
      (own_steps of number who its log (All-tail (λ (e : ℕ × E). IsTurnOf of e.0 (step_of e.1).actor) entry log turns))

  pub steps_more : (log : List (ℕ × E)) (e : ℕ × E) → all_steps (log ++ e ∷ []) ≡ all_steps log ++ step_of e.1 ∷ []
  steps_more [] e = refl
  steps_more (x ∷ log) e = ap (λ (l : List MadeStep). step_of x.1 ∷ l) (steps_more log e)
