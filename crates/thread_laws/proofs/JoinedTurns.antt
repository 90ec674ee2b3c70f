-- With all turns joined nobody else adds to a history.
use Rattle.std.proofs.Common.{◌≡◌, ℕ, ◌+◌, cond, List, [], ◌∷◌, ◌++◌, length, refl, sym, ap, subst, ◌∙◌, arith, eq-eqb, length-append}
use Rattle.std.proofs.lemmas.List.{append-nil}
use Rattle.std.proofs.lemmas.List.Elements.{All-head, All-tail, filter-append}
use Rattle.std.specs.Prelude.{All}
use Rattle.turn_lock.specs.History.{Among, has_number, entries_of, GoesOn}
use Rattle.thread_laws.specs.JoinedTurns.{JoinedTurnsSeeAll}

-- ---- a history with nothing new
nothing_more : {X : Type 0} (xs ys : List X) → xs ++ ys ≡ xs → ys ≡ []
nothing_more xs [] e = refl
nothing_more {X = X} xs (y ∷ ys) e =
    let long : length (xs ++ y ∷ ys) ≡ length xs + length (y ∷ ys) = length-append xs (y ∷ ys) in
    let same : length (xs ++ y ∷ ys) ≡ length xs = ap (λ (l : List X). length l) e in
    absurd (omega (arith, long, same))

module _ {E : Type 0} (numbers : List ℕ) where
  none_new : (more : List (ℕ × E)) → All (λ (entry : ℕ × E). Among entry.0 numbers) more → ((n : ℕ) → Among n numbers → entries_of n more ≡ []) → more ≡ []
  none_new [] all none = refl
  none_new (entry ∷ more) all none =
      let first : entries_of entry.0 (entry ∷ more) ≡ entry ∷ entries_of entry.0 more = ap (λ b. cond {A = List (ℕ × E)} b (entry ∷ entries_of entry.0 more) (entries_of entry.0 more)) (eq-eqb entry.0 entry.0 refl) in
      let empty : entry ∷ entries_of entry.0 more ≡ [] = sym first ∙ none entry.0 (All-head (λ (e : ℕ × E). Among e.0 numbers) entry more all) in
      absurd (cc (empty))

  all_back : (xs ys : List (ℕ × E)) → All (λ (entry : ℕ × E). Among entry.0 numbers) (xs ++ ys) → All (λ (entry : ℕ × E). Among entry.0 numbers) ys
  all_back [] ys all = all
  all_back (x ∷ xs) ys all = all_back xs ys (All-tail (λ (e : ℕ × E). Among e.0 numbers) x (xs ++ ys) all)

  sees_all : (seen log : List (ℕ × E)) → All (λ (entry : ℕ × E). Among entry.0 numbers) log → GoesOn numbers seen log → log ≡ seen
  sees_all seen log all goes =
      let more : List (ℕ × E) = goes.0.0 in
      let is : seen ++ more ≡ log = goes.0.1 in
      let none : more ≡ [] =
      none_new more (all_back seen more (subst (All (λ (entry : ℕ × E). Among entry.0 numbers)) (sym is) all))
      (λ n among. nothing_more (entries_of n seen) (entries_of n more) (sym (filter-append (has_number n) seen more) ∙ (ap (entries_of n) is ∙ goes.1 n among))) in
      sym is ∙ (ap (λ (l : List (ℕ × E)). seen ++ l) none ∙ append-nil seen)

pub joined_turns_see_all : JoinedTurnsSeeAll
joined_turns_see_all numbers = record { at_server = sees_all numbers; at_directory = sees_all numbers }
