-- The places of a file that a source handed out.
use Rattle.std.specs.Prelude.{◌≡◌, ℕ, List, ◌++◌, map}
use Rattle.std.specs.List.{flat_map, range_with_len}
use Rattle.file_bytes.specs.Places.{Placed}
use Rattle.share_format.specs.Mend.{Range}

-- the places in some ranges, one range behind another
abbrev pub places_in : List Range → List ℕ
places_in ranges = flat_map (λ range. range_with_len range.start range.size) ranges

-- a source handed out these bytes at the places in some ranges: what it had given, and what it has given then
pub record GivesAt (given : List Placed) (ranges : List Range) (bytes : List ℕ) (now : List Placed) : Type 0 where
  pub more : List Placed
  pub gives : now ≡ given ++ more
  pub at : map (λ p. p.at) more ≡ places_in ranges
  pub are : map (λ p. p.byte) more ≡ bytes

-- a source handed out the bytes in these ranges and no others
pub record GivesJust (given : List Placed) (ranges : List Range) (now : List Placed) : Type 0 where
  pub bytes : List ℕ
  pub gives : GivesAt given ranges bytes now
