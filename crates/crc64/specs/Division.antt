-- What a remainder is.
use Rattle.std.specs.Prelude.{◌≡◌, ℕ, zero, suc, ◌*◌, ◌/◌, ◌%◌, ◌^◌, bit_xor}
use Rattle.crc64.specs.Remainder.{generator}

-- the product of the generator and a quotient of n coefficients: the sum of the generator's copies, one step further on for each
unfoldable pub multiple : ℕ → ℕ → ℕ
multiple zero quotient = 0
multiple (suc n) quotient = bit_xor (generator * (quotient % 2)) (multiple n (quotient / 2) * 2)

-- with a multiple of the generator added, the n highest coefficients of the dividend are 0, and the others are the rest
pub record IsRemainder (n dividend rest : ℕ) : Type 0 where
  pub quotient : ℕ
  pub sum : bit_xor dividend (multiple n quotient) ≡ rest * 2 ^ n
