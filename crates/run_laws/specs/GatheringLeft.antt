-- How many steps a call that gathers old bytes or bytes to read has left at most, by what it was told.
use Rattle.std.specs.Prelude.{ℕ, ◌+◌, ◌-◌, ◌*◌, List, [], ◌∷◌, length}
use Rattle.clay_grid.specs.Shape.{Shape, chunk_count}
use Rattle.store_core.specs.Told.{Told}
use Rattle.store_core.specs.Note.{Note}
use Rattle.store_core.specs.Gathering.{Gathering, Part}
use Rattle.store_core.specs.GatheringParts.{gather_part}
use Rattle.store_core.specs.Read.{parts_of}
use Rattle.store_core.specs.Write.{old_parts}
use Rattle.run_laws.specs.StepsLeft.{ending_left, committed_left, drawing_left}

-- of a gathering with at most so many answers, of which some were told, and with so many steps after it
abbrev pub result_left : ℕ → ℕ → ℕ → (List Told → ℕ) → Gathering → ℕ
result_left most answers after since (Gathering.Asks server step) = most - answers + after
result_left most answers after since (Gathering.HasBytes told) = since told
result_left most answers after since (Gathering.TooMany missing told) = ending_left told
result_left most answers after since (Gathering.AtTarget told) = ending_left told
result_left most answers after since (Gathering.TargetAway downs told) = ending_left told
result_left most answers after since (Gathering.Short told) = ending_left told

-- three answers of each server for each part, and what follows
abbrev pub gathering_left : Shape → List Part → (List Told → ℕ) → List Told → ℕ
gathering_left g [] left told = left told
gathering_left g (part ∷ parts) left (Told.Gathered ∷ told) = gathering_left g parts left told
gathering_left g (part ∷ parts) left told =
    result_left (3 * chunk_count g) (length told) (3 * chunk_count g * length parts + left []) (gathering_left g parts left) (gather_part g part told)

-- a get or a read of at most so many stripes
abbrev pub read_left : Shape → ℕ → Note → List Told → ℕ
read_left g stripes_read note [] = 3 * chunk_count g * stripes_read + 2
read_left g stripes_read note (Told.Pinned point length_now stripes ∷ told) =
    gathering_left g (parts_of g note length_now stripes) ending_left told
read_left g stripes_read note (_ ∷ told) = 0

-- the steps of a try: a look, the old bytes of at most two stripes, a draw, the prepares, a commit
abbrev pub try_steps : Shape → ℕ → ℕ
try_steps g touched = 6 * chunk_count g + chunk_count g * touched + 3

-- so many tries, and the settles after the last one
abbrev pub tries_left : Shape → ℕ → ℕ → ℕ
tries_left g touched tries = tries * try_steps g touched + chunk_count g * touched

-- a write with so many tries left
abbrev pub write_left : Shape → ℕ → ℕ → List Told → ℕ
write_left g touched tries [] = tries_left g touched tries
write_left g touched tries (Told.Changed base newer ∷ told) = write_left g touched (tries - 1) told
write_left g touched tries (Told.Ready base length_now stripes ∷ told) =
    gathering_left g (old_parts g length_now stripes) (drawing_left g (tries_left g touched (tries - 1)) touched) told
write_left g touched tries (Told.Versions versions ∷ told) = committed_left g versions told
write_left g touched tries (_ ∷ told) = 0
