-- What decoding has found, whichever codeword agrees with the chunks that are there.
use Rattle.std.specs.Prelude.{◌≡◌, ℕ, ◌+◌, ◌*◌, ◌/◌, ◌%◌, ◌<◌, Bool, false, not, ◌&&◌, List, length, get_or, Option, None, is_none, Vec}
use Rattle.std.specs.declared.alloc.Global.{Global}
use Rattle.clay_grid.specs.Shape.{Shape, row_count, layer_count}
use Rattle.clay_grid.specs.Layers.{layer_of}
use Rattle.clay_grid.specs.Score.{score_at}
use Rattle.clay_model.specs.Coupling.{uncoupled}
use Rattle.clay_model.specs.Code.{is_virtual, chunk_of_node, coupled_value}
use Rattle.clay_model.specs.Left.{Completes}

-- byte b of node i in layer n
abbrev pub coupled_byte : Shape → List (List ℕ) → ℕ → ℕ → ℕ → ℕ
coupled_byte g word b i n = coupled_value g word b i (layer_of g n)

-- byte b of the uncoupled value of node i in layer n
abbrev pub uncoupled_byte : Shape → List (List ℕ) → ℕ → ℕ → ℕ → ℕ
uncoupled_byte g word b i n = uncoupled (row_count g) (coupled_value g word b) (i % row_count g) (i / row_count g) (layer_of g n)

-- whether the chunk of node i is missing
abbrev pub is_erased : Shape → List (Option (Vec ℕ Global)) → ℕ → Bool
is_erased g have i = not (is_virtual g i) && is_none (get_or have (chunk_of_node g i) None)

-- a piece is node i's subchunk n
pub record IsCoupled (g : Shape) (have : List (Option (Vec ℕ Global))) (i n : ℕ) (piece : List ℕ) : Type 0 where
  pub at : (word : List (List ℕ)) → Completes g have word → (b : ℕ) → b < g.width → get_or piece b 0 ≡ coupled_byte g word b i n

-- a piece is the uncoupled value of node i in layer n
pub record IsUncoupled (g : Shape) (have : List (Option (Vec ℕ Global))) (i n : ℕ) (piece : List ℕ) : Type 0 where
  pub at : (word : List (List ℕ)) → Completes g have word → (b : ℕ) → b < g.width → get_or piece b 0 ≡ uncoupled_byte g word b i n

-- the uncoupled values of the nodes below count in layer n, but for the erased ones
pub record HoldsPresent (g : Shape) (have : List (Option (Vec ℕ Global))) (erased : List Bool) (n count : ℕ) (layer : List ℕ) : Type 0 where
  pub at : (word : List (List ℕ)) → Completes g have word → (i b : ℕ) → i < count → get_or erased i false ≡ false → b < g.width
      → get_or layer (i * g.width + b) 0 ≡ uncoupled_byte g word b i n

-- the uncoupled values of the erased nodes in layer n, where each layer has a piece for each of them
pub record HoldsLayer (g : Shape) (have : List (Option (Vec ℕ Global))) (points : List ℕ) (n : ℕ) (solved : List ℕ) : Type 0 where
  pub at : (word : List (List ℕ)) → Completes g have word → (e b : ℕ) → e < length points → b < g.width
      → get_or solved ((n * length points + e) * g.width + b) 0 ≡ uncoupled_byte g word b (get_or points e 0) n

-- the layers of a score below that of layer n are solved
abbrev pub HoldsLower : Shape → List (Option (Vec ℕ Global)) → List Bool → List ℕ → ℕ → List ℕ → Type 0
HoldsLower g have erased points n solved =
    (p : ℕ) → p < layer_count g → score_at g erased p < score_at g erased n → HoldsLayer g have points p solved

-- the first count pieces are the subchunks of node i
pub record HoldsSubchunks (g : Shape) (have : List (Option (Vec ℕ Global))) (i count : ℕ) (chunk : List ℕ) : Type 0 where
  pub at : (word : List (List ℕ)) → Completes g have word → (n b : ℕ) → n < count → b < g.width
      → get_or chunk (n * g.width + b) 0 ≡ coupled_byte g word b i n
