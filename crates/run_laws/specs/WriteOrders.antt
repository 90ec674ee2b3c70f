-- In which order the steps of a put or a write come that draws, commits, or was committed.
use Rattle.std.specs.Prelude.{◌≡◌, ℕ, List, ◌∷◌, ◌++◌, length, map, zip, Option, All}
use Rattle.std.specs.List.{range_with_len, flat_map}
use Rattle.clay_grid.specs.Shape.{Shape, chunk_count}
use Rattle.store_map.specs.declared.placement.Placement.{Placement}
use Rattle.store_core.specs.Lists.{places_of}
use Rattle.store_core.specs.Told.{Seen, Told}
use Rattle.store_core.specs.Placements.{IsRow}
use Rattle.store_core.specs.Act.{Act, DirectoryStep, ServerStep}
use Rattle.store_core.specs.NextAct.{Job}
use Rattle.run_laws.specs.GatheredLaws.{gathers}
use Rattle.run_laws.specs.Orders.{AreGathered}

-- the last steps before a draw are a look that lets the call begin to write, and the gathering of the old bytes of each stripe that it pinned
pub record LookedInOrder (g : Shape) (job : Job) (steps : List (Act × Told)) : Type 0 where
  pub before : List (Act × Told)
  pub base : Option ℕ
  pub length_now : ℕ
  pub stripes : List Seen
  pub later : List (Act × Told)
  pub steps_are : steps ≡ before ++ (Act.AtDirectory (DirectoryStep.Look job.note), Told.Ready base length_now stripes) ∷ later
  pub each : AreGathered g (gathers job.note.kind g job.note (Told.Ready base length_now stripes)) (map (λ step. step.1) later)

-- the prepares of a version at each server, with what the servers told
abbrev pub prepares_of : Shape → ℕ → List Placement → List (Act × Told)
prepares_of g version row =
    map (λ both. (Act.AtServer both.0 (ServerStep.Prepare version), Told.Prepared both.1)) (zip (range_with_len 0 (chunk_count g)) row)

-- those of all versions
abbrev pub prepares : Shape → List ℕ → List (List Placement) → List (Act × Told)
prepares g versions placed = flat_map (λ both. prepares_of g both.0 both.1) (zip versions placed)

-- the last steps before a commit are a draw and the prepares for what was drawn; what the servers told goes with the commit
pub record PreparedInOrder (g : Shape) (placed : List (List Placement)) (steps : List (Act × Told)) : Type 0 where
  pub before : List (Act × Told)
  pub versions : List ℕ
  pub count : length placed ≡ length versions
  pub rows : All (IsRow g) placed
  pub steps_are : steps ≡ before ++ (Act.AtDirectory DirectoryStep.Draw, Told.Versions versions) ∷ prepares g versions placed

-- the last steps of a call that was committed are its commit, and a settle for each version at each server
pub record SettledInOrder (g : Shape) (point : ℕ) (steps : List (Act × Told)) : Type 0 where
  pub placed : List (List Placement)
  pub front : List (Act × Told)
  pub settles : List (Act × Told)
  pub prepared : PreparedInOrder g placed front
  pub settled : map (λ step. step.0) settles ≡ map (λ place. Act.AtServer place.0 (ServerStep.Settle place.1)) (places_of (chunk_count g) prepared.versions)
  pub steps_are : steps ≡ front ++ (Act.AtDirectory (DirectoryStep.Commit placed), Told.Done point) ∷ settles
