-- Runs of a lost chunk's layers, where a caller gives a byte for each chunk, 0 where it is missing.
use Rattle.std.specs.Prelude.{ℕ, Bool, not, eqb, List, map}
use Rattle.clay_grid.specs.Shape.{Shape}
use Rattle.lost_layers.specs.declared.run.LostRun.{LostRun}
use Rattle.lost_layers.specs.declared.run.LostPiece.{LostPiece}
use Rattle.lost_layers.specs.Without.{gone_count, missing_pieces_of}
use Rattle.lost_read.specs.MissingRead.{IsReadFrom}

-- for each chunk, whether its mark says that it is there
abbrev pub there_of : List ℕ → List Bool
there_of present = map (λ mark. not (eqb mark 0)) present

-- how many chunks are missing: the lost one, and each other one with the mark 0
unfoldable pub gone_with : Shape → LostRun → List ℕ → ℕ
gone_with g run present = gone_count g run (there_of present)

-- which subchunks of the others a run takes
unfoldable pub pieces_with : Shape → LostRun → List ℕ → List LostPiece
pieces_with g run present = missing_pieces_of g run (there_of present)

-- the run's subchunks in each codeword that has these pieces
unfoldable pub ReadsWithout : Shape → LostRun → List ℕ → List (List ℕ) → List ℕ → Type 0
ReadsWithout g run present pieces subchunks = IsReadFrom g run (there_of present) pieces subchunks
