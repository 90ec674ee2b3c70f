-- What it is that a run is read from its pieces, while chunks are missing.
use Rattle.std.specs.Prelude.{◌≡◌, ℕ, ◌-◌, ◌*◌, Bool, List, map, length}
use Rattle.clay_grid.specs.Shape.{Shape}
use Rattle.clay_model.specs.Code.{IsCodeword}
use Rattle.lost_layers.specs.Determined.{bytes_of_run}
use Rattle.lost_layers.specs.declared.run.LostRun.{LostRun}
use Rattle.lost_layers.specs.declared.run.LostPiece.{LostPiece}
use Rattle.lost_layers.specs.Erased.{Erased}
use Rattle.lost_layers.specs.ErasedPieces.{pieces_of}
use Rattle.lost_read.specs.Read.{bytes_of_piece, AreLong}
use Rattle.lost_layers.specs.Without.{missing_pieces_of, IsReadable}

-- a codeword that has these bytes of the subchunks that are listed
pub record HasPieces (g : Shape) (listed : List LostPiece) (pieces : List (List ℕ)) (word : List (List ℕ)) : Type 0 where
  pub codeword : IsCodeword g word
  pub agrees : map (bytes_of_piece g word) listed ≡ pieces

-- the bytes are those of the run in each codeword that has these pieces
abbrev pub IsReadFrom : Shape → LostRun → List Bool → List (List ℕ) → List ℕ → Type 0
IsReadFrom g run present pieces bytes =
    (word : List (List ℕ)) → HasPieces g (missing_pieces_of g run present) pieces word → bytes ≡ bytes_of_run g word run

-- the same of a run of which some nodes are erased
abbrev pub IsRunFrom : Erased → List (List ℕ) → List ℕ → Type 0
IsRunFrom e pieces bytes = (word : List (List ℕ)) → HasPieces e.g (pieces_of e) pieces word → bytes ≡ bytes_of_run e.g word e.run

-- so many subchunks, and room for the run's bytes
pub record FitRun (g : Shape) (run : LostRun) (count : ℕ) (pieces : List (List ℕ)) (room : ℕ) : Type 0 where
  pub count_is : length pieces ≡ count
  pub lengths : AreLong g.width pieces
  pub room_is : room ≡ (run.to - run.from) * g.width

-- a run of the code of which few enough chunks are missing, as many subchunks as it takes, and room for its bytes
pub record IsReadableFrom (g : Shape) (run : LostRun) (present : List Bool) (pieces : List (List ℕ)) (room : ℕ) : Type 0 where
  pub readable : IsReadable g run present
  pub fit : FitRun g run (length (missing_pieces_of g run present)) pieces room

-- as many subchunks as a run takes of which some nodes are erased, and room for its bytes
abbrev pub FitErased : Erased → List (List ℕ) → ℕ → Type 0
FitErased e pieces room = FitRun e.g e.run (length (pieces_of e)) pieces room
