-- Subchunks that are coupled, by the numbers of node and layer.
use Rattle.std.specs.Prelude.{◌≡◌, ℕ, ◌+◌, ◌*◌, ◌/◌, ◌%◌, ◌<◌, get_or, set}
use Rattle.clay_grid.specs.Shape.{Shape, row_count, node_count}
use Rattle.clay_grid.specs.Layers.{layer_of}

-- subchunk p of node other is the partner of subchunk n of node i: its row is the digit of the column, and its digit the row
pub record ArePartners (g : Shape) (i n other p : ℕ) : Type 0 where
  pub rows : 0 < row_count g
  pub node : i < node_count g
  pub node_is : other ≡ i / row_count g * row_count g + get_or (layer_of g n) (i / row_count g) 0
  pub layer_is : layer_of g p ≡ set (layer_of g n) (i / row_count g) (i % row_count g)
