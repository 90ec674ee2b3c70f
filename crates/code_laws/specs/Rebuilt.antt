-- What a repair has found, whichever codeword has the parts.
use Rattle.std.specs.Prelude.{◌≡◌, ℕ, ◌+◌, ◌*◌, ◌/◌, ◌%◌, ◌<◌, false, Bool, List, get_or, set, Option, Vec}
use Rattle.std.specs.declared.alloc.Global.{Global}
use Rattle.clay_grid.specs.Shape.{Shape, row_count, layer_count, node_of_chunk}
use Rattle.clay_grid.specs.Layers.{layer_of, index_of}
use Rattle.code_laws.specs.Solved.{coupled_byte, uncoupled_byte}
use Rattle.clay_model.specs.RepairParts.{HasParts}

-- a layer that a repair of the lost chunk reads, by its number
pub record IsReadFor (g : Shape) (lost n : ℕ) : Type 0 where
  pub layer : n < layer_count g
  pub digit : get_or (layer_of g n) (node_of_chunk g lost / row_count g) 0 ≡ node_of_chunk g lost % row_count g

-- a piece is node i's subchunk n
pub record IsCoupled (g : Shape) (lost : ℕ) (have : List (Option (Vec ℕ Global))) (i n : ℕ) (piece : List ℕ) : Type 0 where
  pub at : (word : List (List ℕ)) → HasParts g lost have word → (b : ℕ) → b < g.width → get_or piece b 0 ≡ coupled_byte g word b i n

-- a piece is the uncoupled value of node i in layer n
pub record IsUncoupled (g : Shape) (lost : ℕ) (have : List (Option (Vec ℕ Global))) (i n : ℕ) (piece : List ℕ) : Type 0 where
  pub at : (word : List (List ℕ)) → HasParts g lost have word → (b : ℕ) → b < g.width → get_or piece b 0 ≡ uncoupled_byte g word b i n

-- the uncoupled values of the nodes below count in layer n, but for those of the lost node's column
pub record HoldsOthers (g : Shape) (lost : ℕ) (have : List (Option (Vec ℕ Global))) (erased : List Bool) (n count : ℕ) (layer : List ℕ) : Type 0 where
  pub at : (word : List (List ℕ)) → HasParts g lost have word → (i b : ℕ) → i < count → get_or erased i false ≡ false → b < g.width
      → get_or layer (i * g.width + b) 0 ≡ uncoupled_byte g word b i n

-- the uncoupled values of the lost node's column in layer n
pub record HoldsColumn (g : Shape) (lost : ℕ) (have : List (Option (Vec ℕ Global))) (n : ℕ) (column : List ℕ) : Type 0 where
  pub at : (word : List (List ℕ)) → HasParts g lost have word → (x b : ℕ) → x < row_count g → b < g.width
      → get_or column (x * g.width + b) 0 ≡ uncoupled_byte g word b (node_of_chunk g lost / row_count g * row_count g + x) n

-- subchunk n of a chunk is the lost one's
pub record HoldsSubchunk (g : Shape) (lost : ℕ) (have : List (Option (Vec ℕ Global))) (chunk : List ℕ) (n : ℕ) : Type 0 where
  pub at : (word : List (List ℕ)) → HasParts g lost have word → (b : ℕ) → b < g.width
      → get_or chunk (n * g.width + b) 0 ≡ coupled_byte g word b (node_of_chunk g lost) n

-- the layer n with another digit of the lost node's column
abbrev pub with_digit : Shape → ℕ → ℕ → ℕ → ℕ
with_digit g lost n x = index_of (row_count g) (set (layer_of g n) (node_of_chunk g lost / row_count g) x)

-- the subchunks of the layers that differ from layer n in the digit of the lost node's column alone, where that digit is below count
abbrev pub HoldsRow : Shape → ℕ → List (Option (Vec ℕ Global)) → ℕ → ℕ → List ℕ → Type 0
HoldsRow g lost have n count chunk = (x : ℕ) → x < count → HoldsSubchunk g lost have chunk (with_digit g lost n x)
