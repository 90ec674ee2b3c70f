-- What a call was told that found too many servers without their chunk, or away.
use Rattle.std.specs.Prelude.{◌≡◌, ℕ, ◌+◌, ◌/◌, ◌<◌, List, [], ◌∷◌, ◌++◌, length, map, All}
use Rattle.std.specs.List.{flat_map}
use Rattle.clay_grid.specs.Shape.{Shape, stripe_length}
use Rattle.store_map.specs.declared.placement.Placement.{Placement}
use Rattle.store_core.specs.Told.{Told, Seen, Lost}
use Rattle.store_core.specs.Placements.{IsRow, skipped_count, skipped_from}
use Rattle.store_core.specs.Note.{Kind}
use Rattle.store_core.specs.Gathering.{Gathering, Part}
use Rattle.store_core.specs.GatheringParts.{gather_part, gather_chunk}
use Rattle.run_laws.specs.GatherLaws.{Tells}
use Rattle.run_laws.specs.GatheredLaws.{gathers}
use Rattle.store_core.specs.NextAct.{Job}

-- some part that the call gathers, where its look was answered so: its gathering ends with these answers, and these servers are missing
pub record PartIsLost (g : Shape) (job : Job) (looked : Told) (stripe : ℕ) (missing : List Lost) (told : List Told) : Type 0 where
  pub before : List Part
  pub part : Part
  pub after : List Part
  pub is_gathered : gathers job.note.kind g job.note looked ≡ before ++ part ∷ after
  pub of_stripe : part.seen.stripe ≡ stripe
  pub comes_to : gather_part g part told ≡ Gathering.TooMany missing []

-- the same of the chunk that a rebuild makes
pub record ChunkIsLost (g : Shape) (job : Job) (seen : Seen) (stripe : ℕ) (missing : List Lost) (told : List Told) : Type 0 where
  pub rebuilds : job.note.kind ≡ Kind.Rebuild
  pub of_stripe : seen.stripe ≡ stripe
  pub comes_to : gather_chunk g seen job.target told ≡ Gathering.TooMany missing []

-- the same of a version that a draw gave: its chunks and those of the versions before it were prepared, the last of them at one server too many that was away
pub record VersionIsSkipped (g : Shape) (job : Job) (versions : List ℕ) (stripe : ℕ) (missing : List Lost) (told : List Told) : Type 0 where
  pub placed : List (List Placement)
  pub row : List Placement
  pub told_is : told ≡ map Told.Prepared (flat_map (λ whole. whole) placed) ++ map Told.Prepared row
  pub rows : All (IsRow g) placed
  pub drawn : length placed < length versions
  pub of_stripe : stripe ≡ job.note.offset / stripe_length g + length placed
  pub too_many : skipped_count row ≡ g.parity_count + 1
  pub skipped : missing ≡ skipped_from 0 row

-- by the answer to the look, or to the draw
abbrev pub IsLost : Shape → Job → Told → ℕ → List Lost → List Told → Type 0
IsLost g job (Told.PinnedStripe seen) stripe missing told = ChunkIsLost g job seen stripe missing told
IsLost g job (Told.Versions versions) stripe missing told = VersionIsSkipped g job versions stripe missing told
IsLost g job looked stripe missing told = PartIsLost g job looked stripe missing told

-- among all answers of a call those of such a gathering, or to such prepares, stand together, after the answer to the look or to the draw
pub record ToldOfLoss (g : Shape) (job : Job) (stripe : ℕ) (missing : List Lost) (answers : List Told) : Type 0 where
  pub looked : Told
  pub front : List Told
  pub told : List Told
  pub since : List Told
  pub answers_are : answers ≡ front ++ (told ++ since)
  pub look : Tells (λ answer. answer ≡ looked) front
  pub lost : IsLost g job looked stripe missing told
