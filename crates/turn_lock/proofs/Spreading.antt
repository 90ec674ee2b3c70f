-- Values are spread over piles from the greatest number down, and come back in rising order.
use Rattle.std.proofs.Common.{◌≡◌, ℕ, ◌+◌, ◌<◌, ◌%◌, ◌==◌, Bool, cond, List, [], ◌∷◌, ◌++◌, filter, length, length-set, map, get_or, set, slice_get, Some, refl, sym, ap, subst, ◌∙◌, add-one, arith, eq-eqb, ne_eqb}
use Rattle.std.proofs.lemmas.List.{append-nil, length-map, length_push, map-append}
use Rattle.std.proofs.lemmas.List.Elements.{filter-append}
use Rattle.turn_lock.specs.Numbered.{AreSpread, falling}
use Rattle.turn_lock.proofs.JoinedLists.{each_changed}

-- ---- lists with one element more at the end
abbrev rest : {X : Type 0} → List X → List X
rest [] = []
rest (x ∷ xs) = xs

both_ends : {X : Type 0} (xs ys : List X) (x y : X) → xs ++ x ∷ [] ≡ ys ++ y ∷ [] → (xs ≡ ys) × (x ≡ y)
both_ends [] [] x y e = (refl, ap (λ l. get_or l 0 x) e)
both_ends [] (z ∷ ys) x y e =
    let one : length (x ∷ []) ≡ length (z ∷ (ys ++ y ∷ [])) = ap length e in
    let more : length (ys ++ y ∷ []) ≡ length ys + 1 = length_push ys y in
    absurd (omega (arith, one, more))
both_ends (z ∷ xs) [] x y e =
    let one : length (z ∷ (xs ++ x ∷ [])) ≡ length (y ∷ []) = ap length e in
    let more : length (xs ++ x ∷ []) ≡ length xs + 1 = length_push xs x in
    absurd (omega (arith, one, more))
both_ends (z ∷ xs) (w ∷ ys) x y e =
    let later : (xs ≡ ys) × (x ≡ y) = both_ends xs ys x y (ap rest e) in
    let first : z ≡ w = ap (λ l. get_or l 0 z) e in
    ((λ i. first i ∷ later.0 i), later.1)

-- ---- the numbers of a pile
module _ (from count piles place : ℕ) where
  abbrev is_its : ℕ → Bool
  is_its n = n % piles == place

  grown : falling from (count + 1) ≡ falling (from + 1) count ++ from ∷ []
  grown = ap (falling from) (add-one count)

  split : filter is_its (falling from (count + 1)) ≡ filter is_its (falling (from + 1) count) ++ filter is_its (from ∷ [])
  split = ap (filter is_its) grown ∙ filter-append is_its (falling (from + 1) count) (from ∷ [])

  -- one more at its own place
  pub numbers_more : from % piles ≡ place → filter (λ n. n % piles == place) (falling from (count + 1)) ≡ filter (λ n. n % piles == place) (falling (from + 1) count) ++ from ∷ []
  numbers_more here = split ∙ ap (λ (b : Bool). filter is_its (falling (from + 1) count) ++ cond b (from ∷ []) []) (eq-eqb (from % piles) place here)

  -- and none at another
  pub numbers_stay : (place ≡ from % piles → ⊥) → filter (λ n. n % piles == place) (falling from (count + 1)) ≡ filter (λ n. n % piles == place) (falling (from + 1) count)
  numbers_stay apart =
      split
      ∙ (ap (λ (b : Bool). filter is_its (falling (from + 1) count) ++ cond b (from ∷ []) []) (ne_eqb (from % piles) place (λ same. apart (sym same)))
      ∙ append-nil (filter is_its (falling (from + 1) count)))

module _ {X : Type 0} (number : X → ℕ) where
  -- none on empty piles
  pub spread_begins : (from : ℕ) (piles : List (List X)) → ((place : ℕ) (pile : List X) → slice_get piles place ≡ Some pile → pile ≡ []) → AreSpread number from 0 piles
  spread_begins from piles none place pile e = ap (map number) (none place pile e)

  -- ---- one value more, of the number before
  module _ (from count : ℕ) (piles : List (List X)) (are : AreSpread number (from + 1) count piles) (pile : List X) (value : X) (there : slice_get piles (from % length piles) ≡ Some pile) (numbered : number value ≡ from) where
    numbers_now : map number (pile ++ value ∷ []) ≡ filter (λ n. n % length piles == from % length piles) (falling from (count + 1))
    numbers_now =
        map-append number pile (value ∷ [])
        ∙ ((λ i. are (from % length piles) pile there i ++ numbered i ∷ []) ∙ sym (numbers_more from count (length piles) (from % length piles) refl))

    pub spread_goes_on : AreSpread number from (count + 1) (set piles (from % length piles) (pile ++ value ∷ []))
    spread_goes_on =
        subst
        (λ (count_of : ℕ). (k : ℕ) (p : List X) → slice_get (set piles (from % length piles) (pile ++ value ∷ [])) k ≡ Some p → map number p ≡ filter (λ n. n % count_of == k) (falling from (count + 1)))
        (sym (length-set piles (from % length piles) (pile ++ value ∷ [])))
        (each_changed (λ (k : ℕ) (p : List X). map number p ≡ filter (λ n. n % length piles == k) (falling from (count + 1))) piles (from % length piles) (pile ++ value ∷ [])
        (λ k p apart e. are k p e ∙ sym (numbers_stay from count (length piles) k apart)) numbers_now)

  -- ---- one value fewer, of the least number
  module _ (from count : ℕ) (piles : List (List X)) (are : AreSpread number from (count + 1) piles) (pile : List X) (there : slice_get piles (from % length piles) ≡ Some pile) where
    numbers_were : map number pile ≡ filter (λ n. n % length piles == from % length piles) (falling (from + 1) count) ++ from ∷ []
    numbers_were = are (from % length piles) pile there ∙ numbers_more from count (length piles) (from % length piles) refl

    -- there is one
    pub some_there : 0 < length pile
    some_there =
        let whole : length pile ≡ length (filter (λ n. n % length piles == from % length piles) (falling (from + 1) count) ++ from ∷ []) = sym (length-map pile number) ∙ ap length numbers_were in
        let more : length (filter (λ n. n % length piles == from % length piles) (falling (from + 1) count) ++ from ∷ []) ≡ length (filter (λ n. n % length piles == from % length piles) (falling (from + 1) count)) + 1 =
        length_push (filter (λ n. n % length piles == from % length piles) (falling (from + 1) count)) from in
        omega (arith, whole, more)

    module _ (now : List X) (value : X) (taken : pile ≡ now ++ value ∷ []) where
      ends : (map number now ≡ filter (λ n. n % length piles == from % length piles) (falling (from + 1) count)) × (number value ≡ from)
      ends =
          both_ends (map number now) (filter (λ n. n % length piles == from % length piles) (falling (from + 1) count)) (number value) from
          (sym (map-append number now (value ∷ [])) ∙ (ap (map number) (sym taken) ∙ numbers_were))

      pub taken_number : number value ≡ from
      taken_number = ends.1

      pub spread_left : AreSpread number (from + 1) count (set piles (from % length piles) now)
      spread_left =
          subst
          (λ (count_of : ℕ). (k : ℕ) (p : List X) → slice_get (set piles (from % length piles) now) k ≡ Some p → map number p ≡ filter (λ n. n % count_of == k) (falling (from + 1) count))
          (sym (length-set piles (from % length piles) now))
          (each_changed (λ (k : ℕ) (p : List X). map number p ≡ filter (λ n. n % length piles == k) (falling (from + 1) count)) piles (from % length piles) now
          (λ k p apart e. are k p e ∙ numbers_stay from count (length piles) k apart) ends.0)
