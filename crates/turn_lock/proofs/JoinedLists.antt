-- Lists by place: one element changed, one more at the end.
use Rattle.std.proofs.Common.{◌≡◌, ℕ, zero, suc, ◌<◌, List, [], ◌∷◌, ◌++◌, length, map, set, slice_get, Some, refl, ap, subst, arith}
use Rattle.std.proofs.lemmas.Option.{none-some, same_Some}

-- what stands in front stands there with more behind it, and the last one at the end
pub front : {X : Type 0} (xs ys : List X) (k : ℕ) (x : X) → slice_get xs k ≡ Some x → slice_get (xs ++ ys) k ≡ Some x
front [] ys k x e = absurd (none-some x e)
front (y ∷ xs) ys zero x e = e
front (y ∷ xs) ys (suc k) x e = front xs ys k x e

pub at_end : {X : Type 0} (xs : List X) (x : X) → slice_get (xs ++ x ∷ []) (length xs) ≡ Some x
at_end [] x = refl
at_end (y ∷ xs) x = at_end xs x

-- a place within has an element
pub at_place : {X : Type 0} (xs : List X) (j : ℕ) → j < length xs → (x : X) × (slice_get xs j ≡ Some x)
at_place [] j less = absurd (omega arith)
at_place (x ∷ xs) zero less = (x, refl)
at_place (x ∷ xs) (suc j) less = at_place xs j (omega arith)

-- what holds of each element with its place holds after a change, if it holds of the others and of the new one
pub each_changed : {X : Type 0} (P : ℕ → X → Type 0) (xs : List X) (i : ℕ) (x : X) → ((k : ℕ) (t : X) → (k ≡ i → ⊥) → slice_get xs k ≡ Some t → P k t) → P i x
    → (k : ℕ) (t : X) → slice_get (set xs i x) k ≡ Some t → P k t
each_changed P [] i x others here k t e = absurd (none-some t e)
each_changed P (y ∷ ys) zero x others here zero t e = subst (P zero) (same_Some x t e) here
each_changed P (y ∷ ys) zero x others here (suc k) t e = others (suc k) t (λ same. absurd (omega (arith, same))) e
each_changed P (y ∷ ys) (suc i) x others here zero t e = others zero t (λ same. absurd (omega (arith, same))) e
each_changed P (y ∷ ys) (suc i) x others here (suc k) t e =
    each_changed (λ (n : ℕ). P (suc n)) ys i x (λ n u apart f. others (suc n) u (λ same. apart (omega (arith, same))) f) here k t e

-- and with one more at the end
pub each_pushed : {X : Type 0} (P : ℕ → X → Type 0) (xs : List X) (x : X) → ((k : ℕ) (t : X) → slice_get xs k ≡ Some t → P k t) → P (length xs) x
    → (k : ℕ) (t : X) → slice_get (xs ++ x ∷ []) k ≡ Some t → P k t
each_pushed P [] x all here zero t e = subst (P zero) (same_Some x t e) here
each_pushed P [] x all here (suc k) t e = absurd (none-some t e)
each_pushed P (y ∷ xs) x all here zero t e = all zero t e
each_pushed P (y ∷ xs) x all here (suc k) t e = each_pushed (λ (n : ℕ). P (suc n)) xs x (λ n u f. all (suc n) u f) here k t e

-- what is read of a changed list
pub map_set : {X Y : Type 0} (f : X → Y) (xs : List X) (i : ℕ) (x : X) → map f (set xs i x) ≡ set (map f xs) i (f x)
map_set f [] i x = refl
map_set f (y ∷ xs) zero x = refl
map_set f (y ∷ xs) (suc i) x = ap (λ l. f y ∷ l) (map_set f xs i x)
