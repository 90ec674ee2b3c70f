-- What encoding computes: the uncoupled values of the columns that the stripe fills, and those of the last column, which the sums determine.
use Rattle.std.specs.Prelude.{◌≡◌, ℕ, ◌+◌, ◌-◌, ◌*◌, ◌/◌, ◌%◌, ◌<◌, Bool, false, not, cond, nat_lt, eqb, List, [], length, get_or, set, bit_xor}
use Rattle.clay_field.specs.Coupling.{gamma, determinant}
use Rattle.clay_field.specs.Field.{product, power_of, quotient}
use Rattle.clay_grid.specs.Shape.{Shape, row_count, column_count, node_count, layer_count, chunk_length}
use Rattle.clay_grid.specs.Layers.{layer_of, index_of}
use Rattle.clay_model.specs.Sums.{sum_below, weighted_sum}
use Rattle.clay_model.specs.Coupling.{uncoupled}

-- the node in row 0 of the last column
abbrev pub first_parity : Shape → ℕ
first_parity g = node_count g - row_count g

-- byte b of subchunk n of a node outside the last column: the stripe's, or 0 at a virtual node
abbrev pub data_byte : Shape → List ℕ → ℕ → ℕ → ℕ → ℕ
data_byte g stripe b i n = cond (nat_lt i g.data_count) (get_or stripe ((i * layer_count g + n) * g.width + b) 0) 0

-- the same at a layer
abbrev pub data_value : Shape → List ℕ → ℕ → ℕ → List ℕ → ℕ
data_value g stripe b i z = data_byte g stripe b i (index_of (row_count g) z)

-- the uncoupled value of a node outside the last column
abbrev pub uncoupled_value : Shape → List ℕ → ℕ → ℕ → List ℕ → ℕ
uncoupled_value g stripe b i z = uncoupled (row_count g) (data_value g stripe b) (i % row_count g) (i / row_count g) z

-- the values of a layer in which the last column is left out
abbrev pub known_value : Shape → List ℕ → ℕ → List ℕ → ℕ → ℕ
known_value g stripe b z i = cond (nat_lt i (first_parity g)) (uncoupled_value g stripe b i z) 0

-- the first count pieces of w bytes hold the value of each piece and byte
pub record HoldsPieces (w count : ℕ) (value : ℕ → ℕ → ℕ) (pieces : List ℕ) : Type 0 where
  pub at : (i b : ℕ) → i < count → b < w → get_or pieces (i * w + b) 0 ≡ value i b

-- the pieces of layer n hold the uncoupled values of the nodes below count
abbrev pub HoldsUncoupled : Shape → List ℕ → ℕ → ℕ → List ℕ → Type 0
HoldsUncoupled g stripe n count layer = HoldsPieces g.width count (λ i b. uncoupled_value g stripe b i (layer_of g n)) layer

-- the points and the erased nodes are those of the last column
pub record IsLastColumn (g : Shape) (points : List ℕ) (erased : List Bool) : Type 0 where
  pub count : length points ≡ g.parity_count
  pub points_are : (e : ℕ) → e < g.parity_count → get_or points e 0 ≡ first_parity g + e
  pub nodes : length erased ≡ node_count g
  pub erased_are : (i : ℕ) → i < node_count g → get_or erased i false ≡ not (nat_lt i (first_parity g))

-- byte b of row x of the last column in the layer z, where each layer has row_count pieces
abbrev pub last_value : Shape → List ℕ → ℕ → ℕ → List ℕ → ℕ
last_value g column b x z = get_or column ((index_of (row_count g) z * row_count g + x) * g.width + b) 0

-- in layer n, the last column's uncoupled values have the weighted sums of the others
pub record IsSolved (g : Shape) (stripe : List ℕ) (n : ℕ) (column : List ℕ) : Type 0 where
  pub sums : (j b : ℕ) → j < g.parity_count → b < g.width
      → sum_below g.parity_count (λ e. product (power_of (first_parity g + e) j) (last_value g column b e (layer_of g n)))
      ≡ weighted_sum (node_count g) (known_value g stripe b (layer_of g n)) j

-- the coupled value of row x of the last column
abbrev pub coupled_last : Shape → List ℕ → ℕ → ℕ → List ℕ → ℕ
coupled_last g column b x z =
    let y = column_count g - 1 in
    cond (eqb (get_or z y 0) x) (last_value g column b x z)
    (quotient (bit_xor (last_value g column b x z) (product gamma (last_value g column b (get_or z y 0) (set z y x)))) determinant)

-- the subchunks below count of row x's chunk hold its coupled values
abbrev pub HoldsCoupled : Shape → List ℕ → ℕ → ℕ → List ℕ → Type 0
HoldsCoupled g column x count chunk = HoldsPieces g.width count (λ n b. coupled_last g column b x (layer_of g n)) chunk

-- the chunks of the rows below count stand behind the earlier chunks
pub record AddsParity (g : Shape) (column : List ℕ) (count : ℕ) (old new : List (List ℕ)) : Type 0 where
  pub count_is : length new ≡ length old + count
  pub before : (c : ℕ) → c < length old → get_or new c [] ≡ get_or old c []
  pub lengths : (x : ℕ) → x < count → length (get_or new (length old + x) []) ≡ chunk_length g
  pub coupled : (x : ℕ) → x < count → HoldsCoupled g column x (layer_count g) (get_or new (length old + x) [])
