-- What it is that pieces determine a run of a lost chunk's layers.
use Rattle.std.specs.Prelude.{◌≡◌, ℕ, ◌-◌, ◌*◌, List, [], flat_map, get_or, take, drop}
use Rattle.clay_grid.specs.Shape.{Shape}
use Rattle.clay_model.specs.Code.{IsCodeword}
use Rattle.lost_layers.specs.LostPieces.{lost_pieces_of}
use Rattle.lost_layers.specs.declared.run.LostRun.{LostRun}
use Rattle.lost_layers.specs.declared.run.LostPiece.{LostPiece}

-- a word's bytes of the pieces, one piece after another
abbrev pub bytes_of_pieces : Shape → List (List ℕ) → List LostPiece → List ℕ
bytes_of_pieces g word pieces = flat_map (λ p. take g.width (drop (p.layer * g.width) (get_or word p.chunk []))) pieces

-- a word's bytes of the run
abbrev pub bytes_of_run : Shape → List (List ℕ) → LostRun → List ℕ
bytes_of_run g word run = take ((run.to - run.from) * g.width) (drop (run.from * g.width) (get_or word run.lost []))

-- two codewords with the same bytes of the pieces have the same bytes of the run
abbrev pub PiecesDetermine : Shape → LostRun → Type 0
PiecesDetermine g run =
    (a b : List (List ℕ)) → IsCodeword g a → IsCodeword g b
    → bytes_of_pieces g a (lost_pieces_of g run) ≡ bytes_of_pieces g b (lost_pieces_of g run)
    → bytes_of_run g a run ≡ bytes_of_run g b run
