-- Products of the distances of a point from others. The distance of two points is their exclusive or.
use Rattle.std.specs.Prelude.{ℕ, zero, suc, ◌==◌, if◌then◌else◌, List, length, get_or, bit_xor}
use Rattle.clay_field.specs.Field.{product, quotient}

-- the product of f at each number below n
abbrev pub product_below : ℕ → (ℕ → ℕ) → ℕ
product_below zero f = 1
product_below (suc n) f = product (product_below n f) (f n)

-- the distance of x from the point i, where the point own counts for nothing
abbrev pub distance : List ℕ → ℕ → ℕ → ℕ → ℕ
distance points own x i = if i == own then 1 else bit_xor x (get_or points i 0)

-- the product of the distances of x from the other points than own
abbrev pub distances : List ℕ → ℕ → ℕ → ℕ
distances points own x = product_below (length points) (distance points own x)

-- the factor of a value at x in the value at the point own
abbrev pub lagrange_factor : List ℕ → ℕ → ℕ → ℕ
lagrange_factor points own x = quotient (distances points own x) (distances points own (get_or points own 0))
