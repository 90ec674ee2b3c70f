-- Seats that are given out one by one.
use Rattle.std.proofs.Common.{◌≡◌, ℕ, zero, suc, ◌+◌, ◌<◌, List, [], ◌∷◌, ◌++◌, length, drop, get_or, slice_get, Some, refl, ap, subst, sym, ◌∙◌, arith}
use Rattle.std.proofs.lemmas.Option.{same_Some, none-some}
use Rattle.std.specs.List.{remove}

pub removed : {X : Type 0} (xs : List X) → remove xs 0 ≡ drop 1 xs
removed [] = refl
removed (x ∷ xs) = refl

pub drop_one : {X : Type 0} (n : ℕ) (xs : List X) → drop 1 (drop n xs) ≡ drop (suc n) xs
drop_one zero [] = refl
drop_one zero (x ∷ xs) = refl
drop_one (suc n) [] = refl
drop_one (suc n) (x ∷ xs) = drop_one n xs

pub seat_is : {X : Type 0} (all : List X) (n : ℕ) (x seat : X) → slice_get all n ≡ Some seat → x ≡ get_or (drop n all) 0 x → x ≡ seat
seat_is [] n x seat there read = absurd (none-some seat there)
seat_is (y ∷ ys) zero x seat there read = read ∙ same_Some y seat there
seat_is (y ∷ ys) (suc n) x seat there read = seat_is ys n x seat there read

pub each_more : {X : Type 0} (P : ℕ → X → Type 0) (xs : List X) (x : X) → ((i : ℕ) (c : X) → slice_get xs i ≡ Some c → P i c) → P (length xs) x → (i : ℕ) (c : X) → slice_get (xs ++ x ∷ []) i ≡ Some c → P i c
each_more P [] x all here zero c e = subst (P zero) (same_Some x c e) here
each_more P [] x all here (suc i) c e = absurd (none-some c e)
each_more P (y ∷ ys) x all here zero c e = all zero c e
each_more P (y ∷ ys) x all here (suc i) c e = each_more (λ n. P (suc n)) ys x (λ n d f. all (suc n) d f) here i c e

-- the seats after one more
pub next_seats : {X : Type 0} (now before all : List X) (n : ℕ) → now ≡ remove before 0 → before ≡ drop n all → now ≡ drop (n + 1) all
next_seats now before all n one is =
    let more : n + 1 ≡ suc n = omega arith in
    one ∙ removed before ∙ (λ i. drop 1 (is i)) ∙ drop_one n all ∙ (λ i. drop (sym more i) all)

-- the first of those that are left
pub first_left : {X : Type 0} (all : List X) (n : ℕ) (x : X) → n < length all → x ≡ get_or (drop n all) 0 x → slice_get all n ≡ Some x
first_left [] n x less read = absurd (omega (arith, less))
first_left (y ∷ ys) zero x less read = ap (λ (z : _). Some z) (sym read)
first_left (y ∷ ys) (suc n) x less read = first_left ys n x (omega (arith, less)) read
