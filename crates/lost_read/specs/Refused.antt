-- When a run isn't read.
use Rattle.std.specs.Prelude.{◌≢◌, ℕ, ◌≡◌, ◌-◌, ◌*◌, List, length}
use Rattle.clay_grid.specs.Shape.{Shape}
use Rattle.lost_layers.specs.LostLayers.{IsLostRun}
use Rattle.lost_layers.specs.LostPieces.{lost_pieces_of}
use Rattle.lost_layers.specs.Refused.{IsRefused}
use Rattle.lost_layers.specs.declared.run.LostRun.{LostRun}
use Rattle.lost_read.specs.Read.{AreLong}
use Rattle.lost_read.specs.declared.read_fault.ReadFault.{ReadFault}
use Rattle.lost_read.specs.declared.read_fault.ReadFault.TheVariants.{Run, PieceCount, PieceLength, Room}

-- the run is refused by itself; or it takes another number of pieces; or one isn't as long as a subchunk; or there is room for another number
-- of bytes
abbrev pub IsReadRefused : Shape → LostRun → List (List ℕ) → ℕ → ReadFault → Type 0
IsReadRefused g run pieces room (Run fault) = IsRefused g run fault
IsReadRefused g run pieces room PieceCount = IsLostRun g run × (length pieces ≢ length (lost_pieces_of g run))
IsReadRefused g run pieces room PieceLength =
    IsLostRun g run × (length pieces ≡ length (lost_pieces_of g run)) × (AreLong g.width pieces → ⊥)
IsReadRefused g run pieces room Room =
    IsLostRun g run × (length pieces ≡ length (lost_pieces_of g run)) × AreLong g.width pieces × (room ≢ (run.to - run.from) * g.width)
