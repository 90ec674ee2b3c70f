-- Lists of steps.
use Rattle.std.proofs.Common.{◌≡◌, ℕ, zero, suc, ◌+◌, ◌<◌, ◌≤◌, Bool, true, false, cond, List, [], ◌∷◌, ◌++◌, length, map, filter, replicate, None, Some, refl, ap, ◌∙◌, inl, inr, ◌⊎◌, arith}
use Rattle.std.proofs.lemmas.List.Elements.{All-filter, All-head, All-tail, filter-append}
use Rattle.std.specs.Prelude.{All}
use Rattle.std.specs.List.{range_with_len, flat_map, slice_get}
use Rattle.store_core.specs.ActPlace.{ActPlace}
use Rattle.thread_laws.specs.MadeSteps.{MadeStep, MomentsRise}
use Rattle.thread_laws.specs.InOrder.{by_moment}
use Rattle.thread_laws.specs.OwnSteps.{own_steps}
use Rattle.thread_laws.proofs.Sorting.{filter_by_moment}

module _ {X : Type 0} (p : X → Bool) where
  pub filter_all : (xs : List X) → All (λ x. p x ≡ true) xs → filter p xs ≡ xs
  filter_all [] h = refl
  filter_all (x ∷ xs) h =
      let first : p x ≡ true = All-head (λ x. p x ≡ true) x xs h in
      ap (λ b. cond {A = List X} b (x ∷ filter p xs) (filter p xs)) first ∙ ap (λ (l : List X). x ∷ l) (filter_all xs (All-tail (λ x. p x ≡ true) x xs h))

  pub filter_none : (xs : List X) → All (λ x. p x ≡ false) xs → filter p xs ≡ []
  filter_none [] h = refl
  filter_none (x ∷ xs) h =
      ap (λ b. cond {A = List X} b (x ∷ filter p xs) (filter p xs)) (All-head (λ x. p x ≡ false) x xs h) ∙ filter_none xs (All-tail (λ x. p x ≡ false) x xs h)

pub rise_filter : (p : MadeStep → Bool) (xs : List MadeStep) → MomentsRise xs → MomentsRise (filter p xs)
rise_filter p [] h = h
rise_filter p (x ∷ xs) h = by (rise_filter p xs h.1) (p x)
  where
    by : MomentsRise (filter p xs) → (b : Bool) → MomentsRise (cond {A = List MadeStep} b (x ∷ filter p xs) (filter p xs))
    by rest true = (All-filter p (λ (later : MadeStep). x.moment < later.moment) xs h.0, rest)
    by rest false = rest

-- ---- groups
filter_group : (p : MadeStep → Bool) (of : ℕ → List MadeStep) → ((i : ℕ) → filter p (of i) ≡ of i) → (start count : ℕ) → filter p (flat_map of (range_with_len start count)) ≡ flat_map of (range_with_len start count)
filter_group p of each start zero = refl
filter_group p of each start (suc count) =
    filter-append p (of start) (flat_map of (range_with_len (start + 1) count)) ∙ (λ k. each start k ++ filter_group p of each (start + 1) count k)

empty_group : (of : ℕ → List MadeStep) → ((i : ℕ) → of i ≡ []) → (start count : ℕ) → flat_map of (range_with_len start count) ≡ []
empty_group of each start zero = refl
empty_group of each start (suc count) = λ k. each start k ++ empty_group of each (start + 1) count k

-- what passes at each place passes in the whole list
pub own_passes : (p : MadeStep → Bool) (servers : ℕ) (at : ActPlace → List MadeStep) → ((place : ActPlace) → filter p (at place) ≡ at place) → filter p (own_steps servers at) ≡ own_steps servers at
own_passes p servers at each =
    filter_by_moment p (at ActPlace.Directory ++ flat_map (λ j. at (ActPlace.Server j)) (range_with_len 0 servers))
    ∙ ap by_moment (filter-append p (at ActPlace.Directory) (flat_map (λ j. at (ActPlace.Server j)) (range_with_len 0 servers))
    ∙ (λ k. each ActPlace.Directory k ++ filter_group p (λ j. at (ActPlace.Server j)) (λ j. each (ActPlace.Server j)) 0 servers k))

pub own_empty : (servers : ℕ) (at : ActPlace → List MadeStep) → ((place : ActPlace) → at place ≡ []) → own_steps servers at ≡ []
own_empty servers at each = λ k. by_moment (each ActPlace.Directory k ++ empty_group (λ j. at (ActPlace.Server j)) (λ j. each (ActPlace.Server j)) 0 servers k)

-- ---- numbered lists
module _ {Y : Type 0} (f : ℕ → Y) where
  pub get_range : (start count i : ℕ) → i < count → slice_get (map f (range_with_len start count)) i ≡ Some (f (start + i))
  get_range start zero i lt = absurd (omega (arith, lt))
  get_range start (suc count) zero lt = let e : start ≡ start + 0 = omega arith in ap (λ n. Some (f n)) e
  get_range start (suc count) (suc i) lt =
      let e : start + 1 + i ≡ start + suc i = omega arith in
      get_range (start + 1) count i (omega (arith, lt)) ∙ ap (λ n. Some (f n)) e

  pub get_past : (start count i : ℕ) → count ≤ i → slice_get (map f (range_with_len start count)) i ≡ None
  get_past start zero i le = refl
  get_past start (suc count) zero le = absurd (omega (arith, le))
  get_past start (suc count) (suc i) le = get_past (start + 1) count i (omega (arith, le))

pub get_first : {Y : Type 0} (f : ℕ → Y) (count i : ℕ) → i < count → slice_get (map f (range_with_len 0 count)) i ≡ Some (f i)
get_first f count i lt = let e : 0 + i ≡ i = omega arith in get_range f 0 count i lt ∙ ap (λ n. Some (f n)) e

pub found_or_past : {X : Type 0} (xs : List X) (i : ℕ) → ((x : X) × (i < length xs) × (slice_get xs i ≡ Some x)) ⊎ ((length xs ≤ i) × (slice_get xs i ≡ None))
found_or_past {X = X} [] i = inr (omega arith, refl)
found_or_past {X = X} (x ∷ xs) zero = inl (x, omega arith, refl)
found_or_past {X = X} (x ∷ xs) (suc i) = by (found_or_past xs i)
  where
    by : ((y : X) × (i < length xs) × (slice_get xs i ≡ Some y)) ⊎ ((length xs ≤ i) × (slice_get xs i ≡ None)) → ((y : X) × (suc i < length (x ∷ xs)) × (slice_get xs i ≡ Some y)) ⊎ ((length (x ∷ xs) ≤ suc i) × (slice_get xs i ≡ None))
    by (inl found) = let lt : i < length xs = found.1 in inl (found.0, omega (arith, lt), found.2)
    by (inr none) = let le : length xs ≤ i = none.0 in inr (omega (arith, le), none.1)

pub replicate_past : {X : Type 0} (n i : ℕ) (x : X) → n ≤ i → slice_get (replicate n x) i ≡ None
replicate_past zero i x le = refl
replicate_past (suc n) zero x le = absurd (omega (arith, le))
replicate_past (suc n) (suc i) x le = replicate_past n i x (omega (arith, le))
