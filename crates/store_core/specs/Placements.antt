-- Words on placements: what each server answered when it was to keep a version's chunk.
use Rattle.std.specs.Prelude.{◌≡◌, ℕ, suc, ◌+◌, ◌≤◌, max, List, [], ◌∷◌, length}
use Rattle.clay_grid.specs.Shape.{Shape, chunk_count}
use Rattle.store_map.specs.declared.placement.Placement.{Placement}
use Rattle.store_map.specs.declared.placement.Placement.TheVariants as placement
use Rattle.store_map.specs.declared.placement.Found.TheVariants as found
use Rattle.store_core.specs.Told.{Lost}

-- of a row of placements, by server from some number on, the servers that were away and took no chunk
abbrev pub skipped_from : ℕ → List Placement → List Lost
skipped_from server [] = []
skipped_from server (placement.At epoch ∷ row) = skipped_from (server + 1) row
skipped_from server (placement.Skipped downs ∷ row) =
    record { server = server; placed = placement.Skipped downs; found = found.Away downs } ∷ skipped_from (server + 1) row

-- how many they are
abbrev pub skipped_count : List Placement → ℕ
skipped_count [] = 0
skipped_count (placement.At epoch ∷ row) = skipped_count row
skipped_count (placement.Skipped downs ∷ row) = suc (skipped_count row)

-- a row of placements that may be committed: one for each server, and no more were away than the code can do without
pub record IsRow (g : Shape) (row : List Placement) : Type 0 where
  pub whole : length row ≡ chunk_count g
  pub enough : skipped_count row ≤ g.parity_count

-- a chunk that was placed anew: its epoch doesn't fall, and where none was placed there is one now
abbrev pub placed_anew : ℕ → Placement → Placement
placed_anew epoch (placement.At earlier) = placement.At (max epoch earlier)
placed_anew epoch (placement.Skipped downs) = placement.At epoch
