-- A byte as a polynomial over the field of two elements, of which each bit is a coefficient. The sum is the exclusive or. The product is
-- the sum of the shifted copies, reduced by x^8 + x^4 + x^3 + x^2 + 1.
use Rattle.std.specs.Prelude.{ℕ, zero, suc, ◌*◌, ◌/◌, ◌%◌, ◌^◌, bit_xor}
use Rattle.std.specs.Int.{bit_at}

-- the copy of a that is shifted by i, if b has the bit i, and else 0
abbrev pub shifted_copy : ℕ → ℕ → ℕ → ℕ
shifted_copy a b i = a * 2 ^ i * bit_at b i

-- the sum of the copies of a for the lowest n bits of b
unfoldable pub sum_of_copies : ℕ → ℕ → ℕ → ℕ
sum_of_copies a b zero = 0
sum_of_copies a b (suc i) = bit_xor (sum_of_copies a b i) (shifted_copy a b i)

-- x less a copy of the modulus that is shifted by i, if x has the bit i + 8
abbrev pub without_bit : ℕ → ℕ → ℕ
without_bit i x = bit_xor x (shifted_copy 0x11D (x / 2 ^ 8) i)

-- the remainder of a polynomial with n bits above the lowest 8
unfoldable pub remainder : ℕ → ℕ → ℕ
remainder zero x = x
remainder (suc i) x = remainder i (without_bit i x)

-- the product of two bytes; of a greater number the lowest 8 bits count
unfoldable pub product : ℕ → ℕ → ℕ
product a b = remainder 7 (sum_of_copies (a % 2 ^ 8) (b % 2 ^ 8) 8)

-- the product of e copies of a, which is 1 for no copy
unfoldable pub power_of : ℕ → ℕ → ℕ
power_of a zero = 1
power_of a (suc e) = product a (power_of a e)

-- the inverse of a nonzero byte, which is its 254th power, since the 255 nonzero bytes are a group
unfoldable pub inverse_of : ℕ → ℕ
inverse_of a = power_of a 254

-- a divided by a nonzero byte b
abbrev pub quotient : ℕ → ℕ → ℕ
quotient a b = product a (inverse_of b)
