-- The shape of a code: its nodes and layers.
use Rattle.std.specs.Prelude.{ℕ, ◌+◌, ◌-◌, ◌*◌, ◌/◌, ◌^◌, ◌<◌, ◌≤◌, nat_lt, if◌then◌else◌}

-- data chunks, parity chunks, and the bytes of a subchunk
pub record Shape : Type 0 where
  pub data_count : ℕ
  pub parity_count : ℕ
  pub width : ℕ

abbrev pub shape_of : ℕ → ℕ → ℕ → Shape
shape_of k m w = record { data_count = k; parity_count = m; width = w }

abbrev pub chunk_count : Shape → ℕ
chunk_count g = g.data_count + g.parity_count

-- the rows of the grid, which is also the base of the digits
abbrev pub row_count : Shape → ℕ
row_count g = g.parity_count

-- the columns of the grid: the chunks in columns of row_count, rounded up
abbrev pub column_count : Shape → ℕ
column_count g = (chunk_count g + row_count g - 1) / row_count g

abbrev pub node_count : Shape → ℕ
node_count g = row_count g * column_count g

-- the nodes that no chunk stands for
abbrev pub virtual_count : Shape → ℕ
virtual_count g = node_count g - chunk_count g

abbrev pub layer_count : Shape → ℕ
layer_count g = row_count g ^ column_count g

abbrev pub chunk_length : Shape → ℕ
chunk_length g = layer_count g * g.width

abbrev pub stripe_length : Shape → ℕ
stripe_length g = g.data_count * chunk_length g

-- the data nodes come first, then the virtual nodes, then the parity nodes
abbrev pub node_of_chunk : Shape → ℕ → ℕ
node_of_chunk g c = if nat_lt c g.data_count then c else c + virtual_count g

-- no chunk stands for a virtual node
abbrev pub IsVirtual : Shape → ℕ → Type 0
IsVirtual g i = (g.data_count ≤ i) × (i < g.data_count + virtual_count g)
