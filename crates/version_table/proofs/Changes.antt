-- Lists, one element of which is changed.
use Rattle.std.proofs.Common.{◌≡◌, ◌≢◌, ℕ, zero, suc, ◌<◌, ◌≤◌, List, [], ◌∷◌, length, get_or, slice_get, None, Some, set, refl, sym, ap, ◌∙◌, arith}
use Rattle.std.proofs.lemmas.Option.{same_Some, none-some}
use Rattle.store_core.specs.Lists.{change_at}

-- a write is a change
pub change_at-set : {X : Type 0} (f : X → X) (xs : List X) (i : ℕ) (x : X) → i < length xs → x ≡ get_or xs i x → set xs i (f x) ≡ change_at i f xs
change_at-set f [] i x h e = absurd (omega arith)
change_at-set f (y ∷ xs) zero x h e = ap (λ z. f z ∷ xs) e
change_at-set f (y ∷ xs) (suc i) x h e = ap (λ ys. y ∷ ys) (change_at-set f xs i x (omega arith) e)

pub length-change_at : {X : Type 0} (i : ℕ) (f : X → X) (xs : List X) → length (change_at i f xs) ≡ length xs
length-change_at i f [] = refl
length-change_at zero f (x ∷ xs) = refl
length-change_at (suc i) f (x ∷ xs) = ap suc (length-change_at i f xs)

pub change_here : {X : Type 0} (i : ℕ) (f : X → X) (xs : List X) (x : X) → slice_get xs i ≡ Some x → slice_get (change_at i f xs) i ≡ Some (f x)
change_here i f [] x e = absurd (none-some x e)
change_here zero f (y ∷ xs) x e = ap (λ z. Some (f z)) (same_Some y x e)
change_here (suc i) f (y ∷ xs) x e = change_here i f xs x e

pub slice_get-change_at : {X : Type 0} (i other : ℕ) (f : X → X) (xs : List X) → other ≢ i → slice_get (change_at i f xs) other ≡ slice_get xs other
slice_get-change_at i other f [] apart = refl
slice_get-change_at zero zero f (x ∷ xs) apart = absurd (apart refl)
slice_get-change_at zero (suc other) f (x ∷ xs) apart = refl
slice_get-change_at (suc i) zero f (x ∷ xs) apart = refl
slice_get-change_at (suc i) (suc other) f (x ∷ xs) apart = slice_get-change_at i other f xs (λ same. apart (ap suc same))

-- past the end nothing changes
pub change_at-past : {X : Type 0} (i : ℕ) (f : X → X) (xs : List X) → length xs ≤ i → change_at i f xs ≡ xs
change_at-past i f [] past = refl
change_at-past zero f (x ∷ xs) past = absurd (omega arith)
change_at-past (suc i) f (x ∷ xs) past = ap (λ l. x ∷ l) (change_at-past i f xs (omega arith))

pub change_at-none : {X : Type 0} (i : ℕ) (f : X → X) (xs : List X) → slice_get xs i ≡ None → change_at i f xs ≡ xs
change_at-none i f [] past = refl
change_at-none zero f (x ∷ xs) past = absurd (none-some x (sym past))
change_at-none (suc i) f (x ∷ xs) past = ap (λ l. x ∷ l) (change_at-none i f xs past)

pub change_none : {X : Type 0} (i : ℕ) (f : X → X) (xs : List X) → slice_get xs i ≡ None → slice_get (change_at i f xs) i ≡ None
change_none i f xs past = ap (λ l. slice_get l i) (change_at-none i f xs past) ∙ past
