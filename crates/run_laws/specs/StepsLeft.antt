-- How many steps a call that writes has left at most, by what it was told.
use Rattle.std.specs.Prelude.{ℕ, ◌+◌, ◌*◌, max, List, [], ◌∷◌, length}
use Rattle.clay_grid.specs.Shape.{Shape, chunk_count}
use Rattle.store_core.specs.Lists.{places_of}
use Rattle.store_core.specs.Told.{Told}

-- the step that ends the pass
abbrev pub ending_left : List Told → ℕ
ending_left [] = 1
ending_left (Told.Ended ∷ told) = 0
ending_left (Told.Reaped point ∷ told) = 0
ending_left (_ ∷ told) = ending_left told

-- one settle for each place that is left
abbrev pub settling_left : List (ℕ × ℕ) → List Told → ℕ
settling_left [] told = 0
settling_left (place ∷ places) [] = length (place ∷ places)
settling_left (place ∷ places) (_ ∷ told) = settling_left places told

-- after the commit
abbrev pub committed_left : Shape → List ℕ → List Told → ℕ
committed_left g versions (Told.Done point ∷ told) = settling_left (places_of (chunk_count g) versions) told
committed_left g versions _ = 0

-- the commit, and so many steps after it
abbrev pub committing_left : ℕ → List Told → ℕ
committing_left after [] = after + 1
committing_left after (Told.Reaped point ∷ told) = 0
committing_left after (_ ∷ told) = ending_left told

-- one prepare for each place that is left; where too many servers are away the call ends before
abbrev pub preparing_left : ℕ → List (ℕ × ℕ) → List Told → ℕ
preparing_left after [] told = committing_left after told
preparing_left after (place ∷ places) [] = length (place ∷ places) + after + 1
preparing_left after (place ∷ places) (Told.Prepared placement ∷ told) = preparing_left after places told
preparing_left after (place ∷ places) (_ ∷ told) = ending_left told

-- from the draw of at most so many versions on; a commit is followed by the settles, or by so many steps of later tries
abbrev pub drawing_left : Shape → ℕ → ℕ → List Told → ℕ
drawing_left g tries_after touched [] = chunk_count g * touched + max tries_after (chunk_count g * touched) + 2
drawing_left g tries_after touched (Told.Versions versions ∷ told) =
    preparing_left (max tries_after (length (places_of (chunk_count g) versions))) (places_of (chunk_count g) versions) told
drawing_left g tries_after touched (Told.Reaped point ∷ told) = 0
drawing_left g tries_after touched (_ ∷ told) = ending_left told

-- a put of so many stripes
abbrev pub put_left : Shape → ℕ → List Told → ℕ
put_left g touched [] = 2 * chunk_count g * touched + 3
put_left g touched (Told.Ready base length_now stripes ∷ told) = drawing_left g 0 touched told
put_left g touched (Told.Versions versions ∷ told) = committed_left g versions told
put_left g touched (_ ∷ told) = 0

-- a stat or a delete
abbrev pub single_left : List Told → ℕ
single_left [] = 1
single_left (_ ∷ told) = 0
