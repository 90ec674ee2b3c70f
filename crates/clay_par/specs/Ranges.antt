-- Ranges of byte positions of every subchunk.
use Rattle.std.specs.Prelude.{◌≡◌, ℕ, ◌+◌, ◌*◌, ◌<◌, ◌≤◌, List, length, get_or, All}
use Rattle.clay_grid.specs.Shape.{Shape}
use Rattle.clay_par.specs.declared.ranges.Range.{Range}

-- positions of the subchunks, with room for a byte at each of them of one node, of as many nodes, and of these in as many layers
pub record HasRoom (g : Shape) (nodes layers : ℕ) (range : Range) : Type 0 where
  pub inside : range.at + length range.values.items ≤ g.width
  pub one_layer : length range.rows.items ≡ nodes * length range.values.items
  pub all_layers : length range.solved.items ≡ layers * (nodes * length range.values.items)

-- a range of the same positions
abbrev pub SamePlace : Range → Range → Type 0
SamePlace before after = (after.at ≡ before.at) × (length after.values.items ≡ length before.values.items)

-- some range has the position
pub record IsCovered (ranges : List Range) (b : ℕ) : Type 0 where
  pub index : ℕ
  pub range : Range
  pub there : index < length ranges
  pub is : (d : Range) → get_or ranges index d ≡ range
  pub low : range.at ≤ b
  pub high : b < range.at + length range.values.items

-- ranges of all positions
pub record AreRanges (g : Shape) (nodes layers : ℕ) (ranges : List Range) : Type 0 where
  pub room : All (HasRoom g nodes layers) ranges
  pub all : (b : ℕ) → b < g.width → IsCovered ranges b
