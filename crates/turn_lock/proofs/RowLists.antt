-- Lists by place: what is read, and what a change leaves.
use Rattle.std.proofs.Common.{◌≡◌, ℕ, zero, suc, ◌<◌, List, [], ◌∷◌, ◌++◌, length, get_or, set, slice_get, Some, refl, sym, ap, arith}
use Rattle.std.proofs.lemmas.Option.{none-some}

-- the element at a place
pub got : {X : Type 0} (xs : List X) (i : ℕ) (x : X) → i < length xs → x ≡ get_or xs i x → slice_get xs i ≡ Some x
got [] i x less read = absurd (omega arith)
got (y ∷ ys) zero x less read = ap (λ z. Some z) (sym read)
got (y ∷ ys) (suc i) x less read = got ys i x (omega arith) read

-- the others stay
pub get_set_other : {X : Type 0} (xs : List X) (i j : ℕ) (x : X) → (j ≡ i → ⊥) → slice_get (set xs i x) j ≡ slice_get xs j
get_set_other [] i j x apart = refl
get_set_other (y ∷ ys) zero zero x apart = absurd (apart refl)
get_set_other (y ∷ ys) zero (suc j) x apart = refl
get_set_other (y ∷ ys) (suc i) zero x apart = refl
get_set_other (y ∷ ys) (suc i) (suc j) x apart = get_set_other ys i j x (λ same. apart (ap suc same))

-- all but the last one were there before it
pub before_last : {X : Type 0} (xs : List X) (x : X) (j : ℕ) (t : X) → (j ≡ length xs → ⊥) → slice_get (xs ++ x ∷ []) j ≡ Some t → slice_get xs j ≡ Some t
before_last [] x zero t apart e = absurd (apart refl)
before_last [] x (suc j) t apart e = absurd (none-some t e)
before_last (y ∷ xs) x zero t apart e = e
before_last (y ∷ xs) x (suc j) t apart e = before_last xs x j t (λ same. apart (ap suc same)) e
