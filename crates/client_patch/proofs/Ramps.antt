-- Pieces of ramps, and of one byte many times.
use Rattle.std.proofs.Common.{◌≡◌, ℕ, zero, suc, ◌+◌, ◌-◌, ◌%◌, ◌≤◌, ◌∷◌, map, take, drop, replicate, refl, ap, sym, ◌∙◌, arith}
use Rattle.std.specs.List.{range_with_len}
use Rattle.std.proofs.lemmas.List.{take-replicate, drop-replicate}
use Rattle.std.proofs.lemmas.List.FromFn.{take-map-range_with_len}
use Rattle.store_map.specs.Content.{ramp_of}

-- numbers from a later one on
drop_range : (f : ℕ → ℕ) (k a n : ℕ) → drop k (map f (range_with_len a n)) ≡ map f (range_with_len (a + k) (n - k))
drop_range f zero a n =
    let same : a ≡ a + 0 = omega arith in
    let all : n ≡ n - 0 = omega arith in
    λ i. map f (range_with_len (same i) (all i))
drop_range f (suc k) a zero =
    let none : 0 ≡ 0 - suc k = omega arith in
    ap (λ n. map f (range_with_len (a + suc k) n)) none
drop_range f (suc k) a (suc n) =
    let from : a + 1 + k ≡ a + suc k = omega arith in
    let count : n - k ≡ suc n - suc k = omega arith in
    drop_range f k (a + 1) n ∙ (λ i. map f (range_with_len (from i) (count i)))

-- counted from a later start
shifted : (f : ℕ → ℕ) (skipped a n : ℕ) → map (λ i. f (skipped + i)) (range_with_len a n) ≡ map f (range_with_len (skipped + a) n)
shifted f skipped a zero = refl
shifted f skipped a (suc n) =
    let next : skipped + (a + 1) ≡ skipped + a + 1 = omega arith in
    ap (λ l. f (skipped + a) ∷ l) (shifted f skipped (a + 1) n ∙ ap (λ m. map f (range_with_len m n)) next)

pub from_skipped : (first skipped n : ℕ) → map (λ i. (first + (skipped + i)) % 256) (range_with_len 0 n) ≡ map (λ i. (first + i) % 256) (range_with_len skipped n)
from_skipped first skipped n =
    let none : skipped + 0 ≡ skipped = omega arith in
    shifted (λ i. (first + i) % 256) skipped 0 n ∙ ap (λ m. map (λ i. (first + i) % 256) (range_with_len m n)) none

-- of one byte many times
pub piece_of_fill : (byte count skipped n : ℕ) → skipped + n ≤ count → replicate n byte ≡ take n (drop skipped (replicate count byte))
piece_of_fill byte count skipped n within =
    let enough : n ≤ count - skipped = omega arith in
    sym (ap (take n) (drop-replicate skipped count byte) ∙ take-replicate n (count - skipped) byte enough)

-- of a ramp
pub piece_of_ramp : (first count skipped n : ℕ) → skipped + n ≤ count → map (λ i. (first + i) % 256) (range_with_len skipped n) ≡ take n (drop skipped (ramp_of first count))
piece_of_ramp first count skipped n within =
    let enough : n ≤ count - skipped = omega arith in
    let from : 0 + skipped ≡ skipped = omega arith in
    sym (ap (take n) (drop_range (λ i. (first + i) % 256) skipped 0 count)
    ∙ take-map-range_with_len (λ i. (first + i) % 256) (0 + skipped) (count - skipped) n enough
    ∙ ap (λ m. map (λ i. (first + i) % 256) (range_with_len m n)) from)

pub constant : (value a n : ℕ) → map (λ (i : ℕ). value) (range_with_len a n) ≡ replicate n value
constant value a zero = refl
constant value a (suc n) = ap (λ l. value ∷ l) (constant value (a + 1) n)
