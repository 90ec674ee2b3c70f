-- What a repair works with.
use Rattle.std.specs.Prelude.{◌≡◌, ◌≢◌, ℕ, ◌+◌, ◌*◌, ◌/◌, ◌%◌, ◌<◌, ◌≤◌, ◌||◌, ◌&&◌, eqb, nat_eq, true, false, not, Bool, List, [], filter, length, get_or, Option, Some, None, MatchOption, is_none, Vec}
use Rattle.std.specs.declared.alloc.Global.{Global}
use Rattle.clay_grid.specs.Shape.{Shape, node_count, virtual_count, layer_count, chunk_length}
use Rattle.clay_grid.specs.Layers.{layer_of}
use Rattle.clay_aloof.specs.Shape.{AloofShape, all_chunks, rows_of, grid_of, node_of, is_virtual_node, chunk_at}
use Rattle.clay_aloof.specs.Limits.{IsAloof}
use Rattle.clay_aloof.specs.Code.{coupled_value}
use Rattle.clay_aloof.specs.Repair.{aloof_layers_of}
use Rattle.clay_aloof.specs.Pieces.{FitsPieces}
use Rattle.clay_aloof.specs.Tables.{AreTables}
use Rattle.clay_aloof.specs.Solved.{IsPlan, IsIn, HasPlaces}
use Rattle.clay_aloof.specs.declared.layer_solving.Plan.{Plan}
use Rattle.clay_aloof.specs.declared.known.Tables.{Tables}

-- a virtual node
abbrev pub IsBetween : AloofShape → ℕ → Type 0
IsBetween a i = (a.data_count ≤ i) × (i < a.data_count + virtual_count (grid_of a))

-- the chunk of a node isn't there
abbrev pub is_missing_node : AloofShape → List (Option (List ℕ)) → ℕ → Bool
is_missing_node a have i = not (is_virtual_node a i) && is_none (get_or have (chunk_at a i) None)

-- a node is solved if it stands in the lost node's column or its chunk isn't there
abbrev pub is_unknown : AloofShape → ℕ → List (Option (List ℕ)) → ℕ → Bool
is_unknown a lost have i = eqb (i / rows_of a) (node_of a lost / rows_of a) || is_missing_node a have i

-- a layer that the helpers give: the digit of the lost node's column is its row
abbrev pub IsGiven : AloofShape → ℕ → ℕ → Type 0
IsGiven a lost n = get_or (layer_of (grid_of a) n) (node_of a lost / rows_of a) 0 ≡ node_of a lost % rows_of a

-- the layers that are given are solved, and just these
pub record IsRepairPlan (a : AloofShape) (lost : ℕ) (have : List (Option (List ℕ))) (plan : Plan) : Type 0 where
  pub aloof : IsAloof a
  pub sound : IsPlan (grid_of a) plan
  pub few : length plan.points.items ≤ a.parity_count
  pub erased_are : (i : ℕ) → i < node_count (grid_of a) → get_or plan.erased.items i false ≡ is_unknown a lost have i
  pub each_layer : (n : ℕ) → n < layer_count (grid_of a) → IsGiven a lost n → IsIn plan.layers.items n
  pub given : (n : ℕ) → IsIn plan.layers.items n → IsGiven a lost n

-- the layers below count of a list of which digit y is x
abbrev pub kept_layers : Shape → ℕ → ℕ → List ℕ → List ℕ
kept_layers g x y order = filter (λ z. nat_eq (get_or (layer_of g z) y 0) x) order

-- the chunk that stands for node i, or none for a virtual node
abbrev pub IsEntry : AloofShape → ℕ → Option ℕ → Type 0
IsEntry a i entry = MatchOption entry (IsBetween a i) (λ c. (c < all_chunks a) × (node_of a c ≡ i))

-- the chunk of each node, and the places of the layers that the helpers give
abbrev pub ArePartTables : AloofShape → ℕ → Tables → Type 0
ArePartTables a lost tables = AreTables a (IsEntry a) (HasPlaces (aloof_layers_of a lost) (length (aloof_layers_of a lost))) tables

-- a chunk for each node, with the parts of the chunks below count, and zeros for a virtual node
pub record ArePut (a : AloofShape) (lost : ℕ) (have : List (Option (List ℕ))) (count : ℕ) (known : List ℕ) : Type 0 where
  pub whole : length known ≡ node_count (grid_of a) * chunk_length (grid_of a)
  pub parts : (c : ℕ) (piece : List ℕ) → c < count → get_or have c None ≡ Some piece → (i b : ℕ) → i < length (aloof_layers_of a lost) → b < a.width
      → get_or known ((node_of a c * layer_count (grid_of a) + get_or (aloof_layers_of a lost) i 0) * a.width + b) 0 ≡ get_or piece (i * a.width + b) 0
  pub virtual : (i n b : ℕ) → is_virtual_node a i ≡ true → n < layer_count (grid_of a) → b < a.width
      → get_or known ((i * layer_count (grid_of a) + n) * a.width + b) 0 ≡ 0

-- a piece is the lost chunk's subchunk n
pub record IsLostPiece (a : AloofShape) (lost : ℕ) (have : List (Option (List ℕ))) (n : ℕ) (piece : List ℕ) : Type 0 where
  pub at : (word : List (List ℕ)) → FitsPieces a lost have word → (b : ℕ) → b < a.width
      → get_or piece b 0 ≡ coupled_value a word b (node_of a lost) (layer_of (grid_of a) n)

-- the first count pieces are the lost chunk's subchunks
pub record HoldsLost (a : AloofShape) (lost : ℕ) (have : List (Option (List ℕ))) (count : ℕ) (chunk : List ℕ) : Type 0 where
  pub at : (word : List (List ℕ)) → FitsPieces a lost have word → (n b : ℕ) → n < count → b < a.width
      → get_or chunk (n * a.width + b) 0 ≡ coupled_value a word b (node_of a lost) (layer_of (grid_of a) n)

-- a chunk is the lost one of each codeword with these parts
pub record IsLostChunk (a : AloofShape) (lost : ℕ) (have : List (Option (List ℕ))) (chunk : List ℕ) : Type 0 where
  pub len : length chunk ≡ chunk_length (grid_of a)
  pub value : (word : List (List ℕ)) → FitsPieces a lost have word → chunk ≡ get_or word lost []

-- another chunk of the lost one's column isn't there
abbrev pub IsGap : AloofShape → ℕ → List (Option (Vec ℕ Global)) → ℕ → Type 0
IsGap a lost have c = (c ≢ lost) × (node_of a c / rows_of a ≡ node_of a lost / rows_of a) × (is_none (get_or have c None) ≡ true)

-- no chunk below count is one
abbrev pub HasColumn : AloofShape → ℕ → List (Option (Vec ℕ Global)) → ℕ → Type 0
HasColumn a lost have count = (c : ℕ) → c < count → ¬ IsGap a lost have c
