-- Lists of numbers with the same counts are permutations, so that one element may be taken off both sides.
use Rattle.std.proofs.Common.{◌≡◌, ◌⊎◌, ℕ, suc, ◌+◌, ◌<◌, nat_eq, List, [], ◌∷◌, length, get_or, sum_by, refl, ap, inl, inr, arith}
use Rattle.std.proofs.lemmas.Bool.{cases_eq, eq-eqb, ne_eqb}
use Rattle.std.proofs.lemmas.List.Sums.{sum_by-cons}
use Rattle.std.proofs.lemmas.List.Sorted.{IsPermutation-refl, IsPermutation-trans, IsPermutation-sym, IsPermutation-cons, IsPermutation-remove, sum_by-IsPermutation}
use Rattle.std.specs.List.{remove}
use Rattle.std.specs.List.Sorted.{IsPermutation}
use Rattle.version_table.specs.Counts.{one_if}

-- how often a number stands in a list
abbrev count : ℕ → List ℕ → ℕ
count n xs = sum_by (λ y. one_if (nat_eq n y)) xs

count-cons : (n x : ℕ) (xs : List ℕ) → count n (x ∷ xs) ≡ one_if (nat_eq n x) + count n xs
count-cons n x xs = sum_by-cons (λ (y : ℕ). one_if (nat_eq n y)) x xs

count-here : (n : ℕ) (xs : List ℕ) → count n (n ∷ xs) ≡ suc (count n xs)
count-here n xs =
    let one : one_if (nat_eq n n) ≡ 1 = ap one_if (eq-eqb n n refl) in
    omega (arith, one, count-cons n n xs)

-- where a number that is counted stands
record Standing (n : ℕ) (xs : List ℕ) : Type 0 where
  at : ℕ
  within : at < length xs
  is : n ≡ get_or xs at n

stands : (n : ℕ) (xs : List ℕ) → 0 < count n xs → Standing n xs
stands n [] some = absurd (let none : count n [] ≡ 0 = refl in omega (arith, some, none))
stands n (x ∷ xs) some = by (cases_eq n x) (stands n xs)
  where
    by : (n ≡ x) ⊎ (n ≡ x → ⊥) → (0 < count n xs → Standing n xs) → Standing n (x ∷ xs)
    by (inl same) rest = record { at = 0; within = omega arith; is = same }
    by (inr apart) rest =
        let none : one_if (nat_eq n x) ≡ 0 = ap one_if (ne_eqb n x apart) in
        let there : Standing n xs = rest (omega (arith, some, none, count-cons n x xs)) in
        record { at = suc there.at; within = omega (arith, there.within); is = there.is }

from_counts : (xs ys : List ℕ) → ((n : ℕ) → count n xs ≡ count n ys) → IsPermutation xs ys
from_counts [] [] same = IsPermutation-refl []
from_counts [] (y ∷ ys) same = absurd (let none : count y [] ≡ 0 = refl in omega (arith, same y, count-here y ys, none))
from_counts (x ∷ xs) ys same =
    let there : Standing x ys = stands x ys (omega (arith, same x, count-here x xs)) in
    let moved : IsPermutation ys (x ∷ remove ys there.at) = IsPermutation-remove ys there.at x there.within there.is in
    let rest : IsPermutation xs (remove ys there.at) = from_counts xs (remove ys there.at) (λ n.
    let all : count n (x ∷ remove ys there.at) ≡ count n ys = sum_by-IsPermutation (λ (y : ℕ). one_if (nat_eq n y)) ys (x ∷ remove ys there.at) moved in
    omega (arith, same n, all, count-cons n x xs, count-cons n x (remove ys there.at))) in
    IsPermutation-trans (x ∷ xs) (x ∷ remove ys there.at) ys (IsPermutation-cons x xs (remove ys there.at) rest) (IsPermutation-sym ys (x ∷ remove ys there.at) moved)

pub cancel : (x : ℕ) (xs ys : List ℕ) → IsPermutation (x ∷ xs) (x ∷ ys) → IsPermutation xs ys
cancel x xs ys both =
    from_counts xs ys (λ n.
    let all : count n (x ∷ ys) ≡ count n (x ∷ xs) = sum_by-IsPermutation (λ (y : ℕ). one_if (nat_eq n y)) (x ∷ xs) (x ∷ ys) both in
    omega (arith, all, count-cons n x xs, count-cons n x ys))
