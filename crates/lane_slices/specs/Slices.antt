-- Missing chunks that are written to slices, one for each by rising number.
use Rattle.std.specs.Prelude.{◌≡◌, ℕ, List, [], map, get_or, Option}
use Rattle.clay_grid.specs.Shape.{Shape}
use Rattle.clay_lanes.specs.Present.{FitsChunks}
use Rattle.clay_lanes.specs.Recovered.{missing_of}

-- the missing chunks of each codeword whose chunks are those that are there
abbrev pub AreWritten : Shape → List (Option (List ℕ)) → List (List ℕ) → Type 0
AreWritten g pieces slices = (word : List (List ℕ)) → FitsChunks g pieces word → slices ≡ map (λ c. get_or word c []) (missing_of pieces)
