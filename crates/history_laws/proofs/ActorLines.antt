-- Lines of actors: of a test that is of one actor, and a group of actors of which one changed.
use Rattle.std.proofs.Common.{◌≡◌, ℕ, suc, ◌+◌, ◌<◌, ◌≤◌, Bool, List, [], ◌∷◌, ◌++◌, length, filter, flat_map, sum_by, Some, refl, sym, ap, subst, ◌∙◌, inl, inr, ◌⊎◌, arith, length-append}
use Rattle.std.proofs.lemmas.Bool.{cases_eq}
use Rattle.std.proofs.lemmas.Option.{same_Some}
use Rattle.std.proofs.lemmas.List.Elements.{filter-append}
use Rattle.std.proofs.lemmas.List.Sums.{sum_by-cons}
use Rattle.std.specs.List.{slice_get, enumerate_from}
use Rattle.store_core.specs.Lists.{change_at}
use Rattle.store_core.specs.Shown.{lines_of_ended, lines_of_actors}
use Rattle.store_core.specs.Work.{Ended, Calling}
use Rattle.store_core.proofs.Places.{slice_get-change_at}
use Rattle.run_laws.proofs.Groups.{slice_changed}

-- what holds of each actor after one of them changed
pub each_changed : (P : ℕ → Calling → Type 0) (i : ℕ) (old new : Calling) (callings : List Calling) → slice_get callings i ≡ Some old → P i new
    → ((j : ℕ) → (i ≡ j → ⊥) → (c : Calling) → slice_get callings j ≡ Some c → P j c)
    → (j : ℕ) (c : Calling) → slice_get (change_at i (λ _. new) callings) j ≡ Some c → P j c
each_changed P i old new callings is_old own others j c is_now = by (cases_eq i j)
  where
    by : (i ≡ j) ⊎ (i ≡ j → ⊥) → P j c
    by (inl same) =
        let is_new : slice_get (change_at i (λ _. new) callings) j ≡ Some new =
        subst (λ n. slice_get (change_at i (λ _. new) callings) n ≡ Some new) same (slice_changed i old new callings is_old) in
        subst (λ n. P n c) same (subst (P i) (same_Some new c (sym is_new ∙ is_now)) own)
    by (inr differ) = others j differ c (sym (slice_get-change_at i j (λ _. new) callings (λ e. differ (sym e))) ∙ is_now)

module _ {Line : Type 0} (test : Line → Bool) (line : ℕ → ℕ → Ended → List Line) (weight : Ended → ℕ) (i : ℕ)
    (own : (number : ℕ) (ended : Ended) → length (filter test (line i number ended)) ≤ weight ended)
    (other : (j : ℕ) → (i ≡ j → ⊥) → (number : ℕ) (ended : Ended) → length (filter test (line j number ended)) ≡ 0) where
  -- how many lines pass the test
  abbrev passed : List Line → ℕ
  passed lines = length (filter test lines)

  passed-append : (some more : List Line) → passed (some ++ more) ≡ passed some + passed more
  passed-append some more = ap (λ (l : List Line). length l) (filter-append test some more) ∙ length-append (filter test some) (filter test more)

  -- of the actor's own calls
  own_from : (a : ℕ) (es : List Ended) → passed (flat_map (λ entry. line i entry.0 entry.1) (enumerate_from a es)) ≤ sum_by weight es
  own_from a [] = omega arith
  own_from a (e ∷ es) =
      let rest : passed (flat_map (λ entry. line i entry.0 entry.1) (enumerate_from (a + 1) es)) ≤ sum_by weight es = own_from (a + 1) es in
      let here : passed (line i a e) ≤ weight e = own a e in
      let both : passed (line i a e ++ flat_map (λ entry. line i entry.0 entry.1) (enumerate_from (a + 1) es)) ≡ passed (line i a e) + passed (flat_map (λ entry. line i entry.0 entry.1) (enumerate_from (a + 1) es)) =
      passed-append (line i a e) (flat_map (λ entry. line i entry.0 entry.1) (enumerate_from (a + 1) es)) in
      let sums : sum_by weight (e ∷ es) ≡ weight e + sum_by weight es = sum_by-cons weight e es in
      omega (arith, rest, here, both, sums)

  -- of another's
  other_from : (j : ℕ) → (i ≡ j → ⊥) → (a : ℕ) (es : List Ended) → passed (flat_map (λ entry. line j entry.0 entry.1) (enumerate_from a es)) ≡ 0
  other_from j differ a [] = refl
  other_from j differ a (e ∷ es) =
      let rest : passed (flat_map (λ entry. line j entry.0 entry.1) (enumerate_from (a + 1) es)) ≡ 0 = other_from j differ (a + 1) es in
      let here : passed (line j a e) ≡ 0 = other j differ a e in
      let both : passed (line j a e ++ flat_map (λ entry. line j entry.0 entry.1) (enumerate_from (a + 1) es)) ≡ passed (line j a e) + passed (flat_map (λ entry. line j entry.0 entry.1) (enumerate_from (a + 1) es)) =
      passed-append (line j a e) (flat_map (λ entry. line j entry.0 entry.1) (enumerate_from (a + 1) es)) in
      omega (arith, rest, here, both)

  abbrev lines : ℕ → Calling → List Line
  lines j calling = lines_of_ended (line j) calling

  -- the lines of actors with numbers from a on
  abbrev actors_from : ℕ → List Calling → List Line
  actors_from a callings = flat_map (λ entry. lines entry.0 entry.1) (enumerate_from a callings)

  both_actors : (a : ℕ) (c : Calling) (cs : List Calling) → passed (actors_from a (c ∷ cs)) ≡ passed (lines a c) + passed (actors_from (a + 1) cs)
  both_actors a c cs = passed-append (lines a c) (actors_from (a + 1) cs)

  later_from : (a : ℕ) (callings : List Calling) → i < a → passed (actors_from a callings) ≡ 0
  later_from a [] h = refl
  later_from a (c ∷ cs) h =
      let rest : passed (actors_from (a + 1) cs) ≡ 0 = later_from (a + 1) cs (omega (arith, h)) in
      let here : passed (lines a c) ≡ 0 = other_from a (λ e. omega (arith, h, e)) 0 c.ended in
      omega (arith, rest, here, both_actors a c cs)

  bounded_from : (bound a : ℕ) (callings : List Calling) → a ≤ i
      → ((k : ℕ) (c : Calling) → a + k ≡ i → slice_get callings k ≡ Some c → sum_by weight c.ended ≤ bound) → passed (actors_from a callings) ≤ bound
  bounded_from bound a [] low h = omega arith
  bounded_from bound a (c ∷ cs) low h =
      by (λ next. bounded_from bound (a + 1) cs next (λ k d e is. h (suc k) d (omega (arith, e)) is)) (cases_eq i a)
    where
      by : (a + 1 ≤ i → passed (actors_from (a + 1) cs) ≤ bound) → (i ≡ a) ⊎ (i ≡ a → ⊥) → passed (actors_from a (c ∷ cs)) ≤ bound
      by rest (inl same) =
          let here : passed (lines a c) ≤ sum_by weight c.ended = subst (λ n. passed (lines n c) ≤ sum_by weight c.ended) same (own_from 0 c.ended) in
          let most : sum_by weight c.ended ≤ bound = h 0 c (omega (arith, same)) refl in
          let none : passed (actors_from (a + 1) cs) ≡ 0 = later_from (a + 1) cs (omega (arith, same)) in
          omega (arith, here, most, none, both_actors a c cs)
      by rest (inr differ) =
          let none : passed (lines a c) ≡ 0 = other_from a differ 0 c.ended in
          let more : passed (actors_from (a + 1) cs) ≤ bound = rest (omega (arith, low, differ)) in
          omega (arith, none, more, both_actors a c cs)

  -- no more lines pass than the actor's calls weigh
  pub lines_bounded : (bound : ℕ) (callings : List Calling) → ((c : Calling) → slice_get callings i ≡ Some c → sum_by weight c.ended ≤ bound) → length (filter test (lines_of_actors lines callings)) ≤ bound
  lines_bounded bound callings h = bounded_from bound 0 callings (omega arith) (λ k c e is. let same : k ≡ i = omega (arith, e) in h c (subst (λ n. slice_get callings n ≡ Some c) same is))
