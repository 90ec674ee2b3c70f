-- CRC-64/XZ. A polynomial over the field of two elements is a number: the lowest bit is the coefficient of the highest power, and the sum
-- is the exclusive or.
use Rattle.std.specs.Prelude.{ℕ, zero, suc, ◌*◌, ◌/◌, ◌%◌, ◌^◌, List, [], ◌∷◌, length, bit_xor}

-- the generator, of degree 64
abbrev pub generator : ℕ
generator = 0x192D8AF2BAF0E1E85

-- a step of the division: where the highest coefficient is 1 the generator is added, and the coefficient, which is 0 by then, is dropped
abbrev pub reduced : ℕ → ℕ
reduced dividend = bit_xor dividend (generator * (dividend % 2)) / 2

-- what is left of a dividend once its n highest coefficients are gone
unfoldable pub remainder : ℕ → ℕ → ℕ
remainder zero dividend = dividend
remainder (suc n) dividend = remainder n (reduced dividend)

-- the polynomial of a message: the bits of its bytes in a row, in each byte the lowest first
unfoldable pub polynomial : List ℕ → ℕ
polynomial [] = 0
polynomial (byte ∷ bytes) = bit_xor byte (polynomial bytes * 2 ^ 8)

-- 64 coefficients 1
abbrev pub ones : ℕ
ones = 0xFFFFFFFFFFFFFFFF

-- the remainder of register and message together, the message followed by 64 zeros
abbrev pub after : ℕ → List ℕ → ℕ
after register bytes = remainder (8 * length bytes) (bit_xor register (polynomial bytes))

-- the checksum: the first 64 coefficients of the message with 64 zeros behind it are inverted, and so is the remainder
abbrev pub checksum_of : List ℕ → ℕ
checksum_of bytes = bit_xor (after ones bytes) ones
