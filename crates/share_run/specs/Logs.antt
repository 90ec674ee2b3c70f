-- A log of filled places as numbers, and what it shows.
use Rattle.std.specs.Prelude.{ℕ, zero, suc, List, [], ◌∷◌}
use Rattle.share_run.specs.Places.{Filled, filled}
use Rattle.share_run.specs.declared.fill_log.FillLog.TheInside as log

-- each byte behind a one, and at a file's end a zero and its place
abbrev pub file_numbers : ℕ → List ℕ → List ℕ → List ℕ
file_numbers place [] rest = 0 ∷ (place ∷ rest)
file_numbers place (byte ∷ bytes) rest = 1 ∷ (byte ∷ file_numbers place bytes rest)

abbrev pub numbers_of : List Filled → List ℕ
numbers_of [] = []
numbers_of (f ∷ fs) = file_numbers f.place f.bytes (numbers_of fs)

-- the first file with a byte more before its others
abbrev pub with_byte : ℕ → List Filled → List Filled
with_byte byte [] = []
with_byte byte (f ∷ fs) = filled f.place (byte ∷ f.bytes) ∷ fs

-- and back
abbrev pub filled_of : List ℕ → List Filled
filled_of [] = []
filled_of (mark ∷ []) = []
filled_of (zero ∷ (place ∷ rest)) = filled place [] ∷ filled_of rest
filled_of (suc mark ∷ (byte ∷ rest)) = with_byte byte (filled_of rest)

abbrev pub filled_by : log.Inside → List Filled
filled_by a = filled_of a.tag.numbers
