-- Sums in the field of 256 elements.
use Rattle.std.specs.Prelude.{ℕ, zero, suc, ◌+◌, ◌*◌, Bool, false, cond, List, get_or, bit_xor}
use Rattle.clay_field.specs.Field.{product, power_of}

-- the sum of f at each number below n
abbrev pub sum_below : ℕ → (ℕ → ℕ) → ℕ
sum_below zero f = 0
sum_below (suc n) f = bit_xor (sum_below n f) (f n)

-- the sum over the numbers i below n of i^j times f at i
abbrev pub weighted_sum : ℕ → (ℕ → ℕ) → ℕ → ℕ
weighted_sum n f j = sum_below n (λ i. product (power_of i j) (f i))

-- byte b of the node i, of w bytes each, which counts as 0 where the node is erased
abbrev pub present_value : List ℕ → List Bool → ℕ → ℕ → ℕ → ℕ
present_value values erased w b i = cond (get_or erased i false) 0 (get_or values (i * w + b) 0)
