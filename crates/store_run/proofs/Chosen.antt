-- What there is for each element of a list, as a list; and two lists with the same images.
use Rattle.std.proofs.Common.{◌≡◌, ℕ, zero, suc, List, [], ◌∷◌, length, map, slice_get, Some, refl, ap, subst, arith}
use Rattle.std.proofs.lemmas.Option.{none-some, same_Some}

-- for each element there is another
pub record Chosen {X Y : Type 0} (P : ℕ → X → Y → Type 0) (xs : List X) : Type 0 where
  pub list : List Y
  pub count : length list ≡ length xs
  pub each : (i : ℕ) (x : X) (y : Y) → slice_get xs i ≡ Some x → slice_get list i ≡ Some y → P i x y

-- one more in front
more_chosen : {X Y : Type 0} (P : ℕ → X → Y → Type 0) (x : X) (y : Y) (xs : List X) → P zero x y → Chosen (λ (n : ℕ). P (suc n)) xs → Chosen P (x ∷ xs)
more_chosen {X} {Y} P x y xs first rest =
    record {
      list = y ∷ rest.list;
      count = ap suc rest.count;
      each = each;
    }
  where
    each : (i : ℕ) (z : X) (w : Y) → slice_get (x ∷ xs) i ≡ Some z → slice_get (y ∷ rest.list) i ≡ Some w → P i z w
    each zero z w e f = subst (λ (v : Y). P zero z v) (same_Some y w f) (subst (λ (v : X). P zero v y) (same_Some x z e) first)
    each (suc i) z w e f = rest.each i z w e f

pub chosen : {X Y : Type 0} (P : ℕ → X → Y → Type 0) (xs : List X) → ((i : ℕ) (x : X) → slice_get xs i ≡ Some x → (y : Y) × P i x y) → Chosen P xs
chosen P [] each = record { list = []; count = refl; each = λ i x y e f. absurd (none-some x e) }
chosen P (x ∷ xs) each =
    more_chosen P x (each zero x refl).0 xs (each zero x refl).1 (chosen (λ (n : ℕ). P (suc n)) xs (λ i z e. each (suc i) z e))

-- lists of one length, whose elements at each place have one image
pub same_images : {X Y Z : Type 0} (f : X → Z) (g : Y → Z) (xs : List X) (ys : List Y) → length xs ≡ length ys
    → ((i : ℕ) (x : X) (y : Y) → slice_get xs i ≡ Some x → slice_get ys i ≡ Some y → f x ≡ g y) → map f xs ≡ map g ys
same_images f g [] [] count each = refl
same_images f g [] (y ∷ ys) count each = absurd (omega (arith, count))
same_images f g (x ∷ xs) [] count each = absurd (omega (arith, count))
same_images f g (x ∷ xs) (y ∷ ys) count each = λ k. each zero x y refl refl k ∷ same_images f g xs ys (omega (arith, count)) (λ i v w there is. each (suc i) v w there is) k
