-- Tables, one behind another, with an entry for each byte.
use Rattle.std.specs.Prelude.{◌≡◌, ℕ, ◌+◌, ◌*◌, ◌/◌, ◌%◌, ◌^◌, ◌<◌, List, length, get_or}
use Rattle.crc64.specs.Remainder.{remainder}

-- the first entries, each by its place
pub record HasEntries (entry_at : ℕ → ℕ) (count : ℕ) (entries : List ℕ) : Type 0 where
  pub long : length entries ≡ count
  pub entry : (place : ℕ) → place < count → get_or entries place 0 ≡ entry_at place

-- the entry of a byte in table t is the remainder of the byte with t zero bytes behind it
abbrev pub HasRemainders : ℕ → List ℕ → Type 0
HasRemainders = HasEntries (λ place. remainder (8 * (place / 256 + 1)) (place % 256))

-- the entry of a byte in table t is the register after so many zeros that has been the byte at place t alone
abbrev pub HasRegisters : ℕ → ℕ → List ℕ → Type 0
HasRegisters zeros = HasEntries (λ place. remainder zeros (place % 256 * 2 ^ (8 * (place / 256))))
