-- Lists of which one element is changed.
use Rattle.std.proofs.Common.{◌≡◌, ℕ, zero, suc, ◌+◌, ◌<◌, ◌≤◌, Bool, true, false, List, [], ◌∷◌, length, map, get_or, set, slice_get, None, Some, refl, sym, ap, subst, ◌∙◌, arith, ◌⊎◌, inl, inr}
use Rattle.std.proofs.lemmas.Option.{same_Some, none-some}
use Rattle.std.proofs.lemmas.List.Folds.{list_any_at, list_any_none}
use Rattle.std.specs.List.{list_any}

-- what holds of each element with its place holds after a change of one, where it holds of the others still
pub each_set : {X : Type 0} (P Q : ℕ → X → Type 0) (xs : List X) (i : ℕ) (x : X) → ((k : ℕ) (t : X) → P k t → Q k t) → ((k : ℕ) (t : X) → slice_get xs k ≡ Some t → P k t) → Q i x
    → (k : ℕ) (t : X) → slice_get (set xs i x) k ≡ Some t → Q k t
each_set P Q [] i x more all here k t e = absurd (none-some t e)
each_set P Q (y ∷ ys) zero x more all here zero t e = subst (Q zero) (same_Some x t e) here
each_set P Q (y ∷ ys) zero x more all here (suc k) t e = more (suc k) t (all (suc k) t e)
each_set P Q (y ∷ ys) (suc i) x more all here zero t e = more zero t (all zero t e)
each_set P Q (y ∷ ys) (suc i) x more all here (suc k) t e = each_set (λ (n : ℕ). P (suc n)) (λ (n : ℕ). Q (suc n)) ys i x (λ n u p. more (suc n) u p) (λ n u f. all (suc n) u f) here k t e

-- the element at a place
pub got : {X : Type 0} (xs : List X) (i : ℕ) (x : X) → i < length xs → x ≡ get_or xs i x → slice_get xs i ≡ Some x
got [] i x less read = absurd (omega arith)
got (y ∷ ys) zero x less read = ap (λ (z : _). Some z) (sym read)
got (y ∷ ys) (suc i) x less read = got ys i x (omega arith) read

-- and back
pub below : {X : Type 0} (xs : List X) (i : ℕ) (x : X) → slice_get xs i ≡ Some x → i < length xs
below [] i x e = absurd (none-some x e)
below (y ∷ ys) zero x e = omega arith
below (y ∷ ys) (suc i) x e = let less : i < length ys = below ys i x e in omega (arith, less)

pub read_back : {X : Type 0} (xs : List X) (i : ℕ) (x : X) → slice_get xs i ≡ Some x → x ≡ get_or xs i x
read_back [] i x e = absurd (none-some x e)
read_back (y ∷ ys) zero x e = sym (same_Some y x e)
read_back (y ∷ ys) (suc i) x e = read_back ys i x e

-- none is there
pub map_none : {X Y : Type 0} (f : X → Y) (xs : List X) (i : ℕ) → slice_get xs i ≡ None → slice_get (map f xs) i ≡ None
map_none f [] i e = refl
map_none f (x ∷ xs) zero e = absurd (none-some x (sym e))
map_none f (x ∷ xs) (suc i) e = map_none f xs i e

-- ---- whether one of them passes a test
module _ {X : Type 0} (h : X → Bool) (xs : List X) (n : ℕ) where
  pub one_has : (x : X) → n < length xs → x ≡ get_or xs n x → h x ≡ true → true ≡ list_any h xs
  one_has x less is holds = sym (list_any_at h xs n x less (ap h (sym is) ∙ holds))

  at_last : (x : X) → n < length xs → x ≡ get_or xs n x → h x ≡ false → (d : X) → h (get_or xs n d) ≡ false
  at_last x less is fails d = subst (λ (y : X). h y ≡ false) (same_at xs n x d less is) fails
    where
      same_at : (ys : List X) (i : ℕ) (y e : X) → i < length ys → y ≡ get_or ys i y → y ≡ get_or ys i e
      same_at [] i y e low read = absurd (omega arith)
      same_at (z ∷ ys) zero y e low read = read
      same_at (z ∷ ys) (suc i) y e low read = same_at ys i y e (omega arith) read

  pub none_more : ((k : ℕ) (d : X) → k < n → h (get_or xs k d) ≡ false) → (x : X) → n < length xs → x ≡ get_or xs n x → h x ≡ false → (k : ℕ) (d : X) → k < n + 1 → h (get_or xs k d) ≡ false
  none_more before x less is fails k d low = by (split k n low)
    where
      split : (i m : ℕ) → i < m + 1 → (i < m) ⊎ (i ≡ m)
      split zero zero low_now = inr refl
      split zero (suc m) low_now = inl (omega arith)
      split (suc i) zero low_now = absurd (omega (arith, low_now))
      split (suc i) (suc m) low_now = more (split i m (omega (arith, low_now)))
        where
          more : (i < m) ⊎ (i ≡ m) → (suc i < suc m) ⊎ (suc i ≡ suc m)
          more (inl under) = inl (omega (arith, under))
          more (inr same) = inr (ap suc same)

      by : (k < n) ⊎ (k ≡ n) → h (get_or xs k d) ≡ false
      by (inl under) = before k d under
      by (inr same) = subst (λ (i : ℕ). h (get_or xs i d) ≡ false) (sym same) (at_last x less is fails d)

  pub none_has : ((k : ℕ) (d : X) → k < n → h (get_or xs k d) ≡ false) → length xs ≤ n → false ≡ list_any h xs
  none_has before all = sym (list_any_none h xs (λ k d less. before k d (omega (arith, less, all))))
