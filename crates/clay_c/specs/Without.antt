-- What calls from C ask of some layers of a lost chunk, while others are missing too. Each chunk has a mark, which is 0 where it is missing.
use Rattle.std.specs.Prelude.{◌≡◌, ℕ, ◌≤◌, List, length}
use Rattle.clay_grid.specs.Shape.{Shape, chunk_count}
use Rattle.lost_layers.specs.declared.run.LostRun.{LostRun}
use Rattle.lost_layers.specs.declared.run.LostPiece.{LostPiece}
use Rattle.lost_read.specs.MissingRead.{FitRun}
use Rattle.lost_read.specs.There.{gone_with, pieces_with}

-- a mark for each chunk; and where few enough chunks are missing, room for the list of these subchunks
abbrev pub ListFits : Shape → LostRun → List ℕ → List LostPiece → Type 0
ListFits g run present pieces =
    (length present ≡ chunk_count g) × (gone_with g run present ≤ g.parity_count → length pieces ≡ length (pieces_with g run present))

-- a mark for each chunk; and where few enough chunks are missing, these subchunks, and room for those of the run
abbrev pub BytesFit : Shape → LostRun → List ℕ → List (List ℕ) → List ℕ → Type 0
BytesFit g run present pieces subchunks =
    (length present ≡ chunk_count g)
    × (gone_with g run present ≤ g.parity_count → FitRun g run (length (pieces_with g run present)) pieces (length subchunks))
