-- What it is that a run is read from its pieces.
use Rattle.std.specs.Prelude.{◌≡◌, ℕ, ◌-◌, ◌*◌, List, [], map, get_or, take, drop, length, All}
use Rattle.clay_grid.specs.Shape.{Shape}
use Rattle.clay_model.specs.Code.{IsCodeword}
use Rattle.lost_layers.specs.LostLayers.{IsLostRun}
use Rattle.lost_layers.specs.LostPieces.{lost_pieces_of}
use Rattle.lost_layers.specs.Determined.{bytes_of_run}
use Rattle.lost_layers.specs.declared.run.LostRun.{LostRun}
use Rattle.lost_layers.specs.declared.run.LostPiece.{LostPiece}

-- a word's bytes of a subchunk
abbrev pub bytes_of_piece : Shape → List (List ℕ) → LostPiece → List ℕ
bytes_of_piece g word piece = take g.width (drop (piece.layer * g.width) (get_or word piece.chunk []))

-- a codeword that has these bytes of the run's pieces
pub record HasPieces (g : Shape) (run : LostRun) (pieces : List (List ℕ)) (word : List (List ℕ)) : Type 0 where
  pub codeword : IsCodeword g word
  pub agrees : map (bytes_of_piece g word) (lost_pieces_of g run) ≡ pieces

-- the bytes are those of the run in each codeword that has these pieces
abbrev pub IsReadFrom : Shape → LostRun → List (List ℕ) → List ℕ → Type 0
IsReadFrom g run pieces bytes = (word : List (List ℕ)) → HasPieces g run pieces word → bytes ≡ bytes_of_run g word run

-- each has so many bytes
abbrev pub AreLong : ℕ → List (List ℕ) → Type 0
AreLong len pieces = All (λ piece. length piece ≡ len) pieces

-- as many subchunks as the run takes
pub record ArePieces (g : Shape) (run : LostRun) (pieces : List (List ℕ)) : Type 0 where
  pub count : length pieces ≡ length (lost_pieces_of g run)
  pub lengths : AreLong g.width pieces

-- a run of the code, its pieces, and room for its bytes
pub record IsReadable (g : Shape) (run : LostRun) (pieces : List (List ℕ)) (room : ℕ) : Type 0 where
  pub fits : IsLostRun g run
  pub are_pieces : ArePieces g run pieces
  pub room_is : room ≡ (run.to - run.from) * g.width
