-- Lists that stand one behind another.
use Rattle.std.proofs.Common.{◌≡◌, ℕ, zero, suc, ◌+◌, ◌*◌, ◌<◌, List, [], ◌∷◌, ◌++◌, length, get_or, take, drop, refl, sym, ap, ◌∙◌, arith, length-append}
use Rattle.std.specs.List.{flat_map}

pub take_front : {X : Type 0} → (n : ℕ) (xs ys : List X) → n ≡ length xs → take n (xs ++ ys) ≡ xs
take_front zero [] ys long = refl
take_front (suc n) [] ys long = absurd (omega (arith, long))
take_front zero (x ∷ xs) ys long = absurd (omega (arith, long))
take_front (suc n) (x ∷ xs) ys long = ap (λ l. x ∷ l) (take_front n xs ys (omega (arith, long)))

pub drop_front : {X : Type 0} → (m n : ℕ) (xs ys : List X) → m ≡ length xs + n → drop m (xs ++ ys) ≡ drop n ys
drop_front m n [] ys long =
    let same : m ≡ n = omega (arith, long) in
    ap (λ k. drop k ys) same
drop_front zero n (x ∷ xs) ys long = absurd (omega (arith, long))
drop_front (suc m) n (x ∷ xs) ys long = drop_front m n xs ys (omega (arith, long))

-- lists of one length, one behind another
module _ {X : Type 0} (f : X → List ℕ) (len : ℕ) (default : X) where
  abbrev pub AreLong : List X → Type 0
  AreLong xs = (i : ℕ) → i < length xs → length (f (get_or xs i default)) ≡ len

  pub length_flat : (xs : List X) → AreLong xs → length (flat_map f xs) ≡ length xs * len
  length_flat [] long = omega arith
  length_flat (x ∷ xs) long =
      let first : length (f x) ≡ len = long 0 (omega arith) in
      let rest : length (flat_map f xs) ≡ length xs * len = length_flat xs (λ i h. long (suc i) (omega arith)) in
      length-append (f x) (flat_map f xs) ∙ omega (arith, first, rest)

  pub flat_at : (xs : List X) (i : ℕ) → i < length xs → AreLong xs → take len (drop (i * len) (flat_map f xs)) ≡ f (get_or xs i default)
  flat_at [] i less long = absurd (omega (arith, less))
  flat_at (x ∷ xs) zero less long =
      let none : 0 * len ≡ 0 = omega arith in
      ap (λ n. take len (drop n (f x ++ flat_map f xs))) none
      ∙ take_front len (f x) (flat_map f xs) (sym (long 0 (omega arith)))
  flat_at (x ∷ xs) (suc i) less long =
      let first : length (f x) ≡ len = long 0 (omega arith) in
      let place : suc i * len ≡ length (f x) + i * len = omega (arith, first) in
      ap (take len) (drop_front (suc i * len) (i * len) (f x) (flat_map f xs) place)
      ∙ flat_at xs i (omega arith) (λ k h. long (suc k) (omega arith))
