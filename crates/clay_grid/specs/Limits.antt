-- The limits of a shape, and what follows from them.
use Rattle.std.specs.Prelude.{◌≡◌, ℕ, ◌<◌, ◌≤◌, ◌⊎◌}
use Rattle.clay_grid.specs.Shape.{Shape, chunk_count, row_count, column_count, node_count, virtual_count, layer_count, chunk_length, stripe_length}
use Rattle.clay_grid.specs.declared.geometry_fault.BadGeometry.{BadGeometry}
use Rattle.clay_grid.specs.declared.geometry_fault.BadGeometry.TheVariants.{DataCount, ParityCount, Layers, Width, ChunkSize}

pub record IsWithinLimits (g : Shape) : Type 0 where
  pub data_chunks : 2 ≤ g.data_count
  pub parity_chunks : (2 ≤ g.parity_count) × (g.parity_count ≤ 8)
  pub layers : layer_count g ≤ 1024
  pub width : (1 ≤ g.width) × (g.width ≤ 65536)
  pub chunk : chunk_length g ≤ 1048576

-- the fault names the first limit that the shape isn't within: the data chunks, the parity chunks, the layers, the width, the chunk's length
abbrev pub IsFirstFault : Shape → BadGeometry → Type 0
IsFirstFault g DataCount = g.data_count < 2
IsFirstFault g ParityCount = (2 ≤ g.data_count) × ((g.parity_count < 2) ⊎ (8 < g.parity_count))
IsFirstFault g Layers = (2 ≤ g.data_count) × (2 ≤ g.parity_count) × (g.parity_count ≤ 8) × (1024 < layer_count g)
IsFirstFault g Width =
    (2 ≤ g.data_count) × (2 ≤ g.parity_count) × (g.parity_count ≤ 8) × (layer_count g ≤ 1024) × ((g.width < 1) ⊎ (65536 < g.width))
IsFirstFault g ChunkSize =
    (2 ≤ g.data_count) × (2 ≤ g.parity_count) × (g.parity_count ≤ 8) × (layer_count g ≤ 1024) × (1 ≤ g.width) × (g.width ≤ 65536) × (1048576 < chunk_length g)

-- a fault's place in that order
abbrev pub fault_number : BadGeometry → ℕ
fault_number DataCount = 1
fault_number ParityCount = 2
fault_number Layers = 3
fault_number Width = 4
fault_number ChunkSize = 5

-- a shape within the limits, and what follows from them
pub record IsGeometry (g : Shape) : Type 0 where
  pub limits : IsWithinLimits g
  pub data_chunks : g.data_count ≤ 18
  pub nodes : node_count g ≤ 24
  pub chunks : chunk_count g ≤ node_count g
  pub virtual_nodes : virtual_count g < row_count g
  pub columns : (2 ≤ column_count g) × (column_count g ≤ 10)
  pub some_layers : row_count g ≤ layer_count g
  pub stripe : stripe_length g ≤ 18874368

-- the numbers that a geometry keeps beside its shape
pub record IsKept (g : Shape) (columns layers : ℕ) : Type 0 where
  pub columns_are : column_count g ≡ columns
  pub layers_are : layer_count g ≡ layers
  pub geometry : IsGeometry g
