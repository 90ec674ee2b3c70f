-- Folding: sums at the gaps of a multiple of the generator that has few coefficients.
use Rattle.std.specs.Prelude.{◌≡◌, ℕ, ◌+◌, ◌-◌, ◌*◌, ◌/◌, ◌%◌, ◌^◌, ◌<◌, ◌≤◌, List, [], ◌∷◌, length, slice_index, bit_xor}

-- the widest gap, in bytes
abbrev pub span : ℕ
span = 480

-- the coefficients of the multiple, in bytes from the first
abbrev pub gaps : List ℕ
gaps = 173 ∷ 214 ∷ 275 ∷ 281 ∷ 323 ∷ 360 ∷ 409 ∷ 458 ∷ 470 ∷ 477 ∷ 480 ∷ []

-- the digits that stand these gaps before a place, summed, where the digit of place p is entry span + p
unfoldable pub gathered : List ℕ → List ℕ → ℕ → ℕ
gathered [] digits place = 0
gathered (gap ∷ gaps) digits place = bit_xor (gathered gaps digits place) (slice_index digits (place + (span - gap)))

-- 32 bytes, each with the digits added that stand the gaps before
pub record HasGathered (gaps : List ℕ) (byte : ℕ → ℕ) (digits lanes : List ℕ) : Type 0 where
  pub long : length lanes ≡ 32
  pub each : (k : ℕ) → k < 32 → slice_index lanes k ≡ bit_xor (byte k) (gathered gaps digits k)

-- a byte of a message, with the register added to the first 8
abbrev pub entered : ℕ → List ℕ → ℕ → ℕ
entered start bytes place = bit_xor (start / 2 ^ (8 * place) % 2 ^ 8) (slice_index bytes place)

-- the first digits: each is the byte with those added that stand the gaps before, and all others are 0
pub record HasDigits (start : ℕ) (bytes : List ℕ) (count : ℕ) (digits : List ℕ) : Type 0 where
  pub before : (place : ℕ) → place < span → slice_index digits place ≡ 0
  pub each : (place : ℕ) → place < count → slice_index digits (span + place) ≡ bit_xor (entered start bytes place) (gathered gaps digits place)
  pub behind : (place : ℕ) → count ≤ place → slice_index digits (span + place) ≡ 0
