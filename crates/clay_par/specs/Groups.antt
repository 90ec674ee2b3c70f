-- Groups of layers that differ in the last digit alone, of which each is solved by itself.
use Rattle.std.specs.Prelude.{◌≡◌, ℕ, ◌+◌, ◌*◌, ◌/◌, ◌%◌, ◌<◌, ◌≤◌, min, List, [], length, get_or, All}
use Rattle.clay_grid.specs.Shape.{Shape, row_count, layer_count, chunk_length}
use Rattle.clay_grid.specs.Limits.{IsGeometry}
use Rattle.generator_matrix.specs.Generated.{IsLastGenerator}
use Rattle.clay_parity.specs.Blocks.{HoldsGroup, coupled_of}
use Rattle.clay_parity.specs.Solved.{layer_value}
use Rattle.clay_par.specs.declared.parity.Group.{Group}

-- a group of the code's layers, with room for its values and for a block of one node's
pub record HasRoom (g : Shape) (group : Group) : Type 0 where
  pub layers : group.number * row_count g + row_count g ≤ layer_count g
  pub block : length group.values.items ≡ min g.width 4096
  pub whole : length group.solved.items ≡ g.parity_count * (g.parity_count * g.width)

-- the groups of all layers of a geometry, rising
pub record AreGroups (g : Shape) (groups : List Group) : Type 0 where
  pub geometry : IsGeometry g
  pub count : length groups ≡ layer_count g / row_count g
  pub numbers : (i : ℕ) (d : Group) → i < length groups → (get_or groups i d).number ≡ i
  pub room : All (HasRoom g) groups

-- each group holds the values of its layers
abbrev pub HoldGroups : Shape → (ℕ → ℕ → ℕ → ℕ) → List Group → Type 0
HoldGroups g value groups =
    (i : ℕ) (d : Group) → i < length groups → HoldsGroup g.parity_count g.width i g.parity_count value (get_or groups i d).solved.items

-- as many groups as all layers make, each with its room
pub record AreWhole (g : Shape) (groups : List Group) : Type 0 where
  pub count : length groups ≡ layer_count g / row_count g
  pub room : All (HasRoom g) groups

-- they hold the uncoupled values that a stripe gives
pub record AreSolved (g : Shape) (stripe : List ℕ) (groups : List Group) : Type 0 where
  pub geometry : IsGeometry g
  pub whole : AreWhole g groups
  pub unknown : ℕ
  pub factors : List ℕ
  pub generator : IsLastGenerator g unknown factors
  pub values : HoldGroups g (layer_value g factors stripe) groups

-- the chunk of row x has the coupled bytes of whatever values the groups hold
abbrev pub HoldsRow : Shape → List Group → ℕ → List ℕ → Type 0
HoldsRow g groups x chunk =
    (value : ℕ → ℕ → ℕ → ℕ) → HoldGroups g value groups
    → (o : ℕ) → o < chunk_length g → get_or chunk o 0 ≡ coupled_of g.parity_count value x (o / g.width) (o % g.width)

-- the same of a chunk that is made
pub record IsRow (g : Shape) (groups : List Group) (x : ℕ) (chunk : List ℕ) : Type 0 where
  pub long : length chunk ≡ chunk_length g
  pub holds : HoldsRow g groups x chunk

-- a chunk for each row
abbrev pub AreRows : Shape → List Group → List (List ℕ) → Type 0
AreRows g groups chunks = (x : ℕ) → x < row_count g → IsRow g groups x (get_or chunks x [])
