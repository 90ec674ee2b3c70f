-- What calls from C ask and write of some layers of a lost chunk.
use Rattle.std.specs.Prelude.{◌≡◌, ℕ, ◌-◌, ◌*◌, ◌≤◌, List, map, length}
use Rattle.std.specs.List.{range_with_len}
use Rattle.clay_grid.specs.Shape.{Shape, layer_count}
use Rattle.lost_layers.specs.LostPieces.{lost_pieces_of}
use Rattle.lost_layers.specs.declared.run.LostRun.{LostRun}
use Rattle.lost_layers.specs.declared.run.LostPiece.{LostPiece}
use Rattle.lost_read.specs.Read.{IsReadFrom}
use Rattle.clay_c.specs.Pieces.{piece_at}

-- the layers from..to of a lost chunk
abbrev pub run_of : ℕ → ℕ → ℕ → LostRun
run_of lost from to = record { lost = lost; from = from; to = to }

-- a chunk has these layers, which may be none
abbrev pub AreLayers : Shape → ℕ → ℕ → Type 0
AreLayers g from to = (from ≤ to) × (to ≤ layer_count g)

-- how many subchunks of other chunks a run takes
abbrev pub piece_count : Shape → LostRun → ℕ
piece_count g run = length (lost_pieces_of g run)

-- room for the list of these subchunks
abbrev pub LostPiecesFit : Shape → LostRun → List LostPiece → Type 0
LostPiecesFit g run pieces = length pieces ≡ piece_count g run

-- these subchunks, and room for those of the run
abbrev pub LostBytesFit : Shape → LostRun → List ℕ → List ℕ → Type 0
LostBytesFit g run pieces subchunks = (length pieces ≡ piece_count g run * g.width) × (length subchunks ≡ (run.to - run.from) * g.width)

-- so many pieces of len bytes, from one behind another
abbrev pub pieces_cut : ℕ → List ℕ → ℕ → List (List ℕ)
pieces_cut len bytes count = map (piece_at len bytes) (range_with_len 0 count)

-- the run's subchunks in each codeword that has these pieces
abbrev pub ReadsLost : Shape → LostRun → List ℕ → List ℕ → Type 0
ReadsLost g run pieces subchunks = IsReadFrom g run (pieces_cut g.width pieces (piece_count g run)) subchunks
