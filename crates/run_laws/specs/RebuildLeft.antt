-- How many steps a rebuild has left at most, by what it was told.
use Rattle.std.specs.Prelude.{ℕ, ◌+◌, ◌-◌, ◌*◌, List, [], ◌∷◌, length}
use Rattle.clay_grid.specs.Shape.{Shape, chunk_count}
use Rattle.store_core.specs.Told.{Told, Seen}
use Rattle.store_core.specs.GatheringParts.{gather_chunk}
use Rattle.run_laws.specs.StepsLeft.{ending_left}
use Rattle.run_laws.specs.GatheringLeft.{result_left}

-- the last steps of a rebuild
abbrev pub placing_left : List Told → ℕ
placing_left [] = 1
placing_left (Told.Ended ∷ told) = 0
placing_left (Told.Reaped point ∷ told) = 0
placing_left (_ ∷ told) = ending_left told

-- from the install on
abbrev pub installing_left : List Told → ℕ
installing_left [] = 2
installing_left (Told.Placed epoch ∷ told) = placing_left told
installing_left (_ ∷ told) = ending_left told

-- from the confirm on
abbrev pub confirming_left : List Told → ℕ
confirming_left [] = 3
confirming_left (Told.Current ∷ told) = installing_left told
confirming_left (Told.Superseded newer ∷ told) = 0
confirming_left (Told.Reaped point ∷ told) = 0
confirming_left (_ ∷ told) = ending_left told

-- from the gathering on
abbrev pub rebuilding_left : Shape → Seen → ℕ → List Told → ℕ
rebuilding_left g seen target (Told.Gathered ∷ told) = confirming_left told
rebuilding_left g seen target told = result_left (3 * chunk_count g - 1) (length told) 3 confirming_left (gather_chunk g seen target told)

-- a rebuild
abbrev pub rebuild_left : Shape → ℕ → List Told → ℕ
rebuild_left g target [] = 3 * chunk_count g + 3
rebuild_left g target (Told.PinnedStripe seen ∷ told) = rebuilding_left g seen target told
rebuild_left g target (_ ∷ told) = 0
