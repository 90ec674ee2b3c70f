-- The values of a pair of vertices, of which each is the other's partner.
use Rattle.std.specs.Prelude.{◌≡◌, ℕ, bit_xor}
use Rattle.clay_field.specs.Coupling.{gamma, determinant}
use Rattle.clay_field.specs.Field.{product, quotient}

-- u and v are the uncoupled values of partners with the coupled values c and d
pub record AreUncoupled (c d u v : ℕ) : Type 0 where
  pub own : u ≡ bit_xor c (product gamma d)
  pub partner : v ≡ bit_xor d (product gamma c)

-- c and d are the coupled values of partners with the uncoupled values u and v
pub record AreCoupled (u v c d : ℕ) : Type 0 where
  pub own : c ≡ quotient (bit_xor u (product gamma v)) determinant
  pub partner : d ≡ quotient (bit_xor v (product gamma u)) determinant
