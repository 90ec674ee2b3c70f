-- The values of unknown nodes as fixed sums of those of the known nodes.
use Rattle.std.specs.Prelude.{◌≡◌, ℕ, ◌+◌, ◌*◌, ◌<◌, List, length, get_or}
use Rattle.clay_field.specs.Field.{product, power_of}
use Rattle.clay_model.specs.Sums.{sum_below, weighted_sum}
use Rattle.clay_grid.specs.Shape.{Shape, node_count}
use Rattle.clay_model.specs.Points.{sum_over}
use Rattle.code_laws.specs.Columns.{first_parity}
use Rattle.generator_matrix.specs.declared.column.ColumnFactors.{ColumnFactors}

-- a matrix: how many unknown nodes it has values of, the factors of each known node, one node after another, and those of columns
pub record Factors : Type 0 where
  pub unknown : ℕ
  pub each : List ℕ
  pub columns : List ColumnFactors

-- the factor of known node i in the value of unknown node e, where there are m unknown nodes
abbrev pub factor_at : List ℕ → ℕ → ℕ → ℕ → ℕ
factor_at factors m i e = get_or factors (i * m + e) 0

-- the value of unknown node e, where f has those of the n known nodes
abbrev pub generated : List ℕ → ℕ → ℕ → (ℕ → ℕ) → ℕ → ℕ
generated factors m n f e = sum_below n (λ i. product (factor_at factors m i e) (f i))

-- whatever the values f of the known nodes are, the generated values have the same weighted sums
abbrev pub Generates : List ℕ → List ℕ → List ℕ → Type 0
Generates unknown known factors =
    (f : ℕ → ℕ) (j : ℕ) → j < length unknown
    → sum_over unknown (generated factors (length unknown) (length known) f) j ≡ sum_over known f j

-- what a generator keeps
pub record IsGenerator (unknown known : List ℕ) (m : ℕ) (factors : List ℕ) : Type 0 where
  pub count : m ≡ length unknown
  pub long : length factors ≡ length known * length unknown
  pub generates : Generates unknown known factors

-- the generator of some nodes from all nodes, of which those count that are not among them
pub record IsGeneratorOf (g : Shape) (points : List ℕ) (m : ℕ) (factors : List ℕ) : Type 0 where
  pub count : m ≡ length points
  pub long : length factors ≡ node_count g * length points
  pub generates : (f : ℕ → ℕ) (j : ℕ) → j < length points
      → sum_over points (generated factors (length points) (node_count g) f) j ≡ weighted_sum (node_count g) f j

-- the generator of the last column from the other nodes
pub record IsLastGenerator (g : Shape) (m : ℕ) (factors : List ℕ) : Type 0 where
  pub count : m ≡ g.parity_count
  pub long : length factors ≡ first_parity g * g.parity_count
  pub generates : (f : ℕ → ℕ) (j : ℕ) → j < g.parity_count
      → sum_below g.parity_count (λ e. product (power_of (first_parity g + e) j) (generated factors g.parity_count (first_parity g) f e))
      ≡ weighted_sum (first_parity g) f j
