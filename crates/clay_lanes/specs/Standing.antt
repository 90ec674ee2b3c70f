-- Where the chunks that are there stand while the missing ones of all are written: apart, or among all.
use Rattle.std.specs.Prelude.{◌≡◌, ℕ, ◌*◌, ◌<◌, ◌⊎◌, Bool, false, cond, List, map, length, get_or, is_none, All, Option, IfSome, Some, None, ⊤}
use Rattle.std.specs.Option.{option_map}
use Rattle.std.specs.List.{range_with_len}
use Rattle.clay_grid.specs.Shape.{Shape, chunk_length}
use Rattle.clay_model.specs.Left.{parts}
use Rattle.lane_repair.specs.Views.{laid_pieces, EndWithin, piece_around, StandsAround}
use Rattle.clay_lanes.specs.declared.chunk_filling.Left.{Left}
use Rattle.clay_lanes.specs.declared.chunk_filling.Left.TheVariants.{Apart, Among}

-- where each chunk that isn't missing begins among all chunks, of the first of them
abbrev pub starts_left : Shape → List Bool → ℕ → List (Option ℕ)
starts_left g missing count = map (λ c. cond (get_or missing c false) None (Some (c * chunk_length g))) (range_with_len 0 count)

-- how many chunks a list has an entry for, and whether it has none of a chunk's
abbrev pub left_count : Left → ℕ
left_count (Apart have) = length have.now
left_count (Among starts) = length starts.now

abbrev pub is_left_gone : Left → ℕ → Bool
is_left_gone (Apart have) c = is_none (get_or have.now c None)
is_left_gone (Among starts) c = is_none (get_or starts.now c None)

-- the bytes of the chunks that are there, of all chunks
abbrev pub left_pieces : Left → List ℕ → ℕ → List (Option (List ℕ))
left_pieces (Apart have) chunks len = parts have.now
left_pieces (Among starts) chunks len = laid_pieces chunks starts.now len

-- the same where one of all is left out
abbrev pub pieces_around : Left → List ℕ → List ℕ → ℕ → List (Option (List ℕ))
pieces_around (Apart have) before after len = parts have.now
pieces_around (Among starts) before after len = map (option_map (piece_around before after len)) starts.now

-- they end within the bytes
abbrev pub IsRoom : Left → List ℕ → ℕ → Type 0
IsRoom (Apart have) chunks len = ⊤
IsRoom (Among starts) chunks len = EndWithin chunks starts.now len

abbrev pub IsRoomAround : Left → List ℕ → List ℕ → ℕ → Type 0
IsRoomAround (Apart have) before after len = ⊤
IsRoomAround (Among starts) before after len = All (λ o. IfSome o (StandsAround before after len)) starts.now

-- a chunk that stands among all begins at its place
abbrev pub StandInPlace : Shape → Left → Type 0
StandInPlace g (Apart have) = ⊤
StandInPlace g (Among starts) = (c : ℕ) → c < length starts.now → (get_or starts.now c None ≡ None) ⊎ (get_or starts.now c None ≡ Some (c * chunk_length g))
