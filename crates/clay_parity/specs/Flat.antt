-- Parity chunks that stand one behind another, written group by group.
use Rattle.std.specs.Prelude.{◌≡◌, ℕ, ◌+◌, ◌*◌, ◌/◌, ◌%◌, ◌<◌, List, map, get_or, slice_range}
use Rattle.std.specs.List.{range_with_len}
use Rattle.clay_grid.specs.Shape.{Shape, row_count, layer_count, chunk_length}
use Rattle.clay_parity.specs.Blocks.{coupled_of}
use Rattle.clay_parity.specs.Solved.{layer_value}
use Rattle.clay_parity.specs.Parity.{AreParity}

-- chunks of len bytes each that stand one behind another
abbrev pub chunks_in : ℕ → ℕ → List ℕ → List (List ℕ)
chunks_in count len bytes = map (λ c. slice_range bytes (c * len) (c * len + len)) (range_with_len 0 count)

-- in each of count rows of len bytes as many as part are written from start on, and those before stay
pub record WritesRows (count len start part : ℕ) (value : ℕ → ℕ → ℕ) (old new : List ℕ) : Type 0 where
  pub at : (x o : ℕ) → x < count → o < part → get_or new (x * len + (start + o)) 0 ≡ value x o
  pub before : (x p : ℕ) → p < start → get_or new (x * len + p) 0 ≡ get_or old (x * len + p) 0

-- the parity chunks get their subchunks of a group of layers
abbrev pub WritesGroup : Shape → ℕ → (ℕ → ℕ → ℕ) → List ℕ → List ℕ → Type 0
WritesGroup g number value old new =
    WritesRows g.parity_count (chunk_length g) (number * (g.parity_count * g.width)) (g.parity_count * g.width) value old new

-- the parity chunks have their subchunks of the first number groups of layers
pub record HoldsGroups (g : Shape) (value : ℕ → ℕ → ℕ → ℕ) (number : ℕ) (bytes : List ℕ) : Type 0 where
  pub at : (x o : ℕ) → x < g.parity_count → o < number * (g.parity_count * g.width)
      → get_or bytes (x * chunk_length g + o) 0 ≡ coupled_of g.parity_count value x (o / g.width) (o % g.width)

-- those of all groups, by the values that a stripe gives
abbrev pub HoldsAllGroups : Shape → List ℕ → List ℕ → List ℕ → Type 0
HoldsAllGroups g factors stripe bytes = HoldsGroups g (layer_value g factors stripe) (layer_count g / row_count g) bytes

-- they are the parity chunks of a stripe
abbrev pub IsParity : Shape → List ℕ → List ℕ → Type 0
IsParity g stripe bytes = AreParity g stripe (chunks_in g.parity_count (chunk_length g) bytes)
