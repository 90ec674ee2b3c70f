-- What is known of a run's subchunks, for each codeword that has the pieces.
use Rattle.std.specs.Prelude.{◌≡◌, ℕ, ◌+◌, ◌<◌, List, map, get_or}
use Rattle.clay_field.specs.Field.{product}
use Rattle.generator_matrix.specs.Generated.{factor_at}
use Rattle.clay_model.specs.Sums.{sum_below}
use Rattle.clay_model.specs.Erased.{present}
use Rattle.clay_model.specs.Partners.{ArePartners}
use Rattle.clay_model.specs.declared.partners.Subchunk.{Subchunk}
use Rattle.clay_grid.specs.Shape.{node_count, layer_count}
use Rattle.code_laws.specs.Columns.{HoldsPieces}
use Rattle.code_laws.specs.Solved.{coupled_byte, uncoupled_byte}
use Rattle.lost_read.specs.Read.{HasPieces, ArePieces}
use Rattle.lost_read.specs.Plan.{IsReadPlan}
use Rattle.lost_read.specs.declared.reading.Reading.{Reading}

-- the codeword has the pieces that are there
abbrev pub Fits : Reading → List (List ℕ) → Type 0
Fits reading word = HasPieces reading.plan.now.placed.g reading.plan.now.placed.run (map (λ piece. piece.now) reading.pieces.now) word

-- the plan of a run, and its pieces
pub record IsReading (reading : Reading) : Type 0 where
  pub planned : IsReadPlan reading.plan.now
  pub are_pieces : ArePieces reading.plan.now.placed.g reading.plan.now.placed.run (map (λ piece. piece.now) reading.pieces.now)

-- the bytes are node i's subchunk n
abbrev pub IsCoupledIn : Reading → ℕ → ℕ → List ℕ → Type 0
IsCoupledIn reading i n bytes =
    (word : List (List ℕ)) → Fits reading word → (b : ℕ) → b < reading.plan.now.placed.g.width
    → get_or bytes b 0 ≡ coupled_byte reading.plan.now.placed.g word b i n

-- the bytes are node i's uncoupled value in layer n
abbrev pub IsUncoupledIn : Reading → ℕ → ℕ → List ℕ → Type 0
IsUncoupledIn reading i n bytes =
    (word : List (List ℕ)) → Fits reading word → (b : ℕ) → b < reading.plan.now.placed.g.width
    → get_or bytes b 0 ≡ uncoupled_byte reading.plan.now.placed.g word b i n

-- the sum of the values of the nodes below count in layer n, each times its factor in the value of the erased node at a place
abbrev pub HoldsSumIn : Reading → ℕ → ℕ → ℕ → List ℕ → Type 0
HoldsSumIn reading n place count sum =
    (word : List (List ℕ)) → Fits reading word → (b : ℕ) → b < reading.plan.now.placed.g.width
    → get_or sum b 0
    ≡ sum_below count (λ i. product (factor_at reading.plan.now.generator.each reading.plan.now.generator.unknown i place)
    (present reading.plan.now.erased.items (λ i. uncoupled_byte reading.plan.now.placed.g word b i n) i))

-- the subchunk with which the lost node's subchunk z is coupled
pub record IsMateIn (reading : Reading) (z : ℕ) (mate : Subchunk) : Type 0 where
  pub partners : ArePartners reading.plan.now.placed.g reading.plan.now.placed.node z mate.node mate.layer
  pub in_grid : mate.node < node_count reading.plan.now.placed.g
  pub in_layers : mate.layer < layer_count reading.plan.now.placed.g

-- the first count subchunks are those of the run
abbrev pub HoldsRunIn : Reading → ℕ → List ℕ → Type 0
HoldsRunIn reading count bytes =
    (word : List (List ℕ)) → Fits reading word
    → HoldsPieces reading.plan.now.placed.g.width count
    (λ i b. coupled_byte reading.plan.now.placed.g word b reading.plan.now.placed.node (reading.plan.now.placed.run.from + i)) bytes
