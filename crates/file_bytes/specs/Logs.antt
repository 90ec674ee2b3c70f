-- Logs as numbers, and what they show.
use Rattle.std.specs.Prelude.{ℕ, List, [], ◌∷◌}
use Rattle.file_bytes.specs.Places.{Placed, placed}
use Rattle.file_bytes.specs.declared.position_logs.PlaceLog.TheInside as bytes
use Rattle.file_bytes.specs.declared.position_logs.PositionLog.TheInside as positions

-- each position followed by its byte
abbrev pub numbers_of : List Placed → List ℕ
numbers_of [] = []
numbers_of (p ∷ ps) = p.at ∷ (p.byte ∷ numbers_of ps)

-- and back
abbrev pub placed_of : List ℕ → List Placed
placed_of [] = []
placed_of (at ∷ []) = []
placed_of (at ∷ (byte ∷ rest)) = placed at byte ∷ placed_of rest

abbrev pub placed_in : bytes.Inside → List Placed
placed_in a = placed_of a.tag.numbers

abbrev pub positions_in : positions.Inside → List ℕ
positions_in a = a.tag.numbers
