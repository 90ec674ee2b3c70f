-- What is known of a run's subchunks, for each codeword that has the pieces.
use Rattle.std.specs.Prelude.{◌≡◌, ℕ, ◌+◌, ◌<◌, List, map, length, get_or}
use Rattle.clay_model.specs.Partners.{ArePartners}
use Rattle.clay_model.specs.declared.partners.Subchunk.{Subchunk}
use Rattle.clay_grid.specs.Shape.{node_count, layer_count}
use Rattle.code_laws.specs.Columns.{HoldsPieces}
use Rattle.code_laws.specs.Solved.{coupled_byte, uncoupled_byte}
use Rattle.lost_layers.specs.Determined.{bytes_of_run}
use Rattle.lost_read.specs.Read.{AreLong}
use Rattle.lost_layers.specs.Erased.{Erased}
use Rattle.lost_layers.specs.ErasedPieces.{pieces_of}
use Rattle.lost_layers.specs.ErasedRuns.{solved_of, IsSolvedRun}
use Rattle.lost_read.specs.MissingRead.{HasPieces}
use Rattle.lost_read.specs.MissingPlan.{IsMissingReadPlan}
use Rattle.lost_read.specs.declared.missing_reading.Reading.{Reading}

abbrev pub run_of : Reading → Erased
run_of reading = solved_of reading.run.now

-- the codeword has the pieces that are there
abbrev pub Fits : Reading → List (List ℕ) → Type 0
Fits reading word = HasPieces (run_of reading).g (pieces_of (run_of reading)) (map (λ piece. piece.now) reading.pieces.now) word

-- a run, its plan, and its pieces
pub record IsReading (reading : Reading) : Type 0 where
  pub run : IsSolvedRun reading.run.now
  pub planned : IsMissingReadPlan (run_of reading) reading.plan.now
  pub count : length reading.pieces.now ≡ length (pieces_of (run_of reading))
  pub lengths : AreLong (run_of reading).g.width (map (λ piece. piece.now) reading.pieces.now)

-- the bytes are node i's subchunk n
abbrev pub IsCoupledIn : Reading → ℕ → ℕ → List ℕ → Type 0
IsCoupledIn reading i n bytes =
    (word : List (List ℕ)) → Fits reading word → (b : ℕ) → b < (run_of reading).g.width → get_or bytes b 0 ≡ coupled_byte (run_of reading).g word b i n

-- the bytes are node i's uncoupled value in layer n
abbrev pub IsUncoupledIn : Reading → ℕ → ℕ → List ℕ → Type 0
IsUncoupledIn reading i n bytes =
    (word : List (List ℕ)) → Fits reading word → (b : ℕ) → b < (run_of reading).g.width → get_or bytes b 0 ≡ uncoupled_byte (run_of reading).g word b i n

-- the subchunk with which the lost node's subchunk z is coupled
pub record IsMateIn (reading : Reading) (z : ℕ) (mate : Subchunk) : Type 0 where
  pub partners : ArePartners (run_of reading).g reading.run.now.placed.node z mate.node mate.layer
  pub in_grid : mate.node < node_count (run_of reading).g
  pub in_layers : mate.layer < layer_count (run_of reading).g

-- the first count subchunks are those of the run
abbrev pub HoldsRunIn : Reading → ℕ → List ℕ → Type 0
HoldsRunIn reading count bytes =
    (word : List (List ℕ)) → Fits reading word
    → HoldsPieces (run_of reading).g.width count
    (λ i b. coupled_byte (run_of reading).g word b reading.run.now.placed.node ((run_of reading).run.from + i)) bytes

-- the bytes are those of the run
abbrev pub IsRunIn : Reading → List ℕ → Type 0
IsRunIn reading bytes = (word : List (List ℕ)) → Fits reading word → bytes ≡ bytes_of_run (run_of reading).g word (run_of reading).run
