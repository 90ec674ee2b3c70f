-- A round lowers what its actors have left.
use Rattle.std.proofs.Common.{◌≡◌, ℕ, suc, ◌+◌, ◌<◌, ◌≤◌, Bool, true, false, List, [], ◌∷◌, length, get_or, set, refl, true≢false, ◌||◌, sym, ap, subst, ◌∙◌, arith, ◌⊎◌, inl, inr}
use Rattle.std.proofs.lemmas.List.{get_or-set_same, get_or-set_other}
use Rattle.std.specs.List.{list_any}
use Rattle.run_seats.specs.Falling.{all_left, steps_left}
use Rattle.run_seats.specs.SeatedActors.{actor_has, some_has}
use Rattle.run_seats.specs.declared.seated_actor.SeatedActor.{SeatedActor}
use Rattle.run_seats.specs.declared.store.Store.{Store}
use Rattle.run_seats.proofs.Having.{below_or_same, read_within}

module _ (store : Store) where
  -- an actor that had a step has fewer left, any other as many
  pub record Fell (before after : SeatedActor) : Type 0 where
    pub falls : actor_has store.script.now before ≡ true → steps_left store after < steps_left store before
    pub over : actor_has store.script.now before ≡ false → steps_left store after ≡ steps_left store before

  at_most : (before after : SeatedActor) → Fell before after → steps_left store after ≤ steps_left store before
  at_most before after fell = by (actor_has store.script.now before) refl
    where
      by : (has : Bool) → actor_has store.script.now before ≡ has → steps_left store after ≤ steps_left store before
      by true is = let less = fell.falls is in omega (arith, less)
      by false is = let same = fell.over is in omega (arith, same)

  -- of each of them
  abbrev pub AreFelled : List SeatedActor → List SeatedActor → Type 0
  AreFelled before after = (k : ℕ) (d : SeatedActor) → k < length before → Fell (get_or before k d) (get_or after k d)

  all_at_most : (before after : List SeatedActor) → length after ≡ length before → AreFelled before after → all_left store after ≤ all_left store before
  all_at_most [] [] long fell = omega arith
  all_at_most [] (y ∷ ys) long fell = absurd (omega (arith, long))
  all_at_most (x ∷ xs) [] long fell = absurd (omega (arith, long))
  all_at_most (x ∷ xs) (y ∷ ys) long fell =
      let here = at_most x y (fell 0 x (omega arith)) in
      let there = all_at_most xs ys (omega (arith, long)) (λ k d less. fell (suc k) d (omega (arith, less))) in
      omega (arith, here, there)

  pub all_fall : (before after : List SeatedActor) → length after ≡ length before → AreFelled before after → some_has store.script.now before ≡ true → all_left store after < all_left store before
  all_fall [] after long fell has = absurd (true≢false (sym has))
  all_fall (x ∷ xs) [] long fell has = absurd (omega (arith, long))
  all_fall (x ∷ xs) (y ∷ ys) long fell has = by (actor_has store.script.now x) refl (λ more. all_fall xs ys (omega (arith, long)) (λ k d less. fell (suc k) d (omega (arith, less))) more)
    where
      rest : AreFelled xs ys
      rest k d less = fell (suc k) d (omega (arith, less))

      by : (first : Bool) → actor_has store.script.now x ≡ first → (some_has store.script.now xs ≡ true → all_left store ys < all_left store xs)
          → steps_left store y + all_left store ys < steps_left store x + all_left store xs
      by true is later =
          let here = (fell 0 x (omega arith)).falls is in
          let there = all_at_most xs ys (omega (arith, long)) rest in
          omega (arith, here, there)
      by false is later =
          let here = (fell 0 x (omega arith)).over is in
          let there = later (sym (ap (λ (b : Bool). b || some_has store.script.now xs) is) ∙ has) in
          omega (arith, here, there)

  -- the first so many have taken their turn, the others stand as they stood
  pub record IsVisited (place : ℕ) (before now : List SeatedActor) : Type 0 where
    pub fell : (k : ℕ) (d : SeatedActor) → k < place → Fell (get_or before k d) (get_or now k d)
    pub rest : (k : ℕ) (d : SeatedActor) → place ≤ k → get_or now k d ≡ get_or before k d

  pub none_visited : (actors : List SeatedActor) → IsVisited 0 actors actors
  none_visited actors = record { fell = λ k d less. absurd (omega (arith, less)); rest = λ k d from. refl }

  pub one_visited : (place : ℕ) (before now : List SeatedActor) → IsVisited place before now → (was after : SeatedActor) → place < length now → was ≡ get_or now place was → Fell was after
      → IsVisited (place + 1) before (set now place after)
  one_visited place before now visited was after less read fell =
      record {
        fell = λ k d low. by k d (below_or_same k place low);
        rest = λ k d from. get_or-set_other now place k after d (λ same. absurd (omega (arith, from, same))) ∙ visited.rest k d (omega (arith, from));
      }
    where
      stood : (d : SeatedActor) → get_or before place d ≡ was
      stood d = sym (visited.rest place d (omega arith)) ∙ (read_within now place d was less ∙ sym read)

      by : (k : ℕ) (d : SeatedActor) → (k < place) ⊎ (k ≡ place) → Fell (get_or before k d) (get_or (set now place after) k d)
      by k d (inl under) =
          subst (λ (x : SeatedActor). Fell (get_or before k d) x) (sym (get_or-set_other now place k after d (λ same. absurd (omega (arith, under, same))))) (visited.fell k d under)
      by k d (inr same) =
          subst (λ (i : ℕ). Fell (get_or before i d) (get_or (set now place after) i d)) (sym same)
          (subst (λ (x : SeatedActor). Fell x (get_or (set now place after) place d)) (sym (stood d))
          (subst (λ (x : SeatedActor). Fell was x) (sym (get_or-set_same now place after d less)) fell))

  pub all_visited : (place : ℕ) (before now : List SeatedActor) → IsVisited place before now → length before ≤ place → AreFelled before now
  all_visited place before now visited all k d less = visited.fell k d (omega (arith, less, all))
