-- When a run isn't read.
use Rattle.std.specs.Prelude.{◌≡◌, ◌≢◌, ℕ, ◌-◌, ◌*◌, ◌⊎◌, Bool, List, length}
use Rattle.clay_grid.specs.Shape.{Shape}
use Rattle.lost_layers.specs.declared.run.LostRun.{LostRun}
use Rattle.lost_read.specs.Read.{AreLong}
use Rattle.lost_layers.specs.Erased.{Erased}
use Rattle.lost_layers.specs.ErasedPieces.{pieces_of}
use Rattle.lost_layers.specs.declared.missing_fault.MissingFault.TheVariants.{OutOfMemory}
use Rattle.lost_layers.specs.Without.{missing_pieces_of, IsReadable, IsRefused}
use Rattle.lost_read.specs.declared.missing_read_fault.MissingReadFault.{MissingReadFault}
use Rattle.lost_read.specs.declared.missing_read_fault.MissingReadFault.TheVariants.{Run, PieceCount, PieceLength, Room}

-- there is another number of pieces; or one isn't as long as a subchunk; or there is room for another number of bytes
abbrev pub IsMisfit : Shape → LostRun → ℕ → List (List ℕ) → ℕ → MissingReadFault → Type 0
IsMisfit g run count pieces room (Run fault) = ⊥
IsMisfit g run count pieces room PieceCount = length pieces ≢ count
IsMisfit g run count pieces room PieceLength = (length pieces ≡ count) × (AreLong g.width pieces → ⊥)
IsMisfit g run count pieces room Room = (length pieces ≡ count) × AreLong g.width pieces × (room ≢ (run.to - run.from) * g.width)

-- memory is wanting; or the pieces or the room don't fit the run
abbrev pub IsUnread : Erased → List (List ℕ) → ℕ → MissingReadFault → Type 0
IsUnread e pieces room fault = (fault ≡ Run OutOfMemory) ⊎ IsMisfit e.g e.run (length (pieces_of e)) pieces room fault

-- the run is refused by itself; or it isn't, and the pieces or the room don't fit it
abbrev pub IsReadRefused : Shape → LostRun → List Bool → List (List ℕ) → ℕ → MissingReadFault → Type 0
IsReadRefused g run present pieces room (Run fault) = IsRefused g run present fault
IsReadRefused g run present pieces room fault =
    IsReadable g run present × IsMisfit g run (length (missing_pieces_of g run present)) pieces room fault
