-- How many steps a rebuild makes that finds its target's chunk alone missing and places it.
use Rattle.std.specs.Prelude.{◌≡◌, ℕ, ◌+◌, ◌*◌, ◌<◌, List, length}
use Rattle.clay_grid.specs.Shape.{Shape, chunk_count}
use Rattle.store_core.specs.Act.{Act, Outcome}
use Rattle.store_core.specs.NextAct.{Job}
use Rattle.store_core.specs.Told.{Told}
use Rattle.run_laws.specs.GatherLaws.{reasons_of}
use Rattle.run_laws.specs.ToldInSteps.{AreTold, act_after}

-- with n servers 2n + 3 steps: its look, a question to each server, a fetch from each but its target, the confirm, the install, and the step that tells where the chunk was placed
abbrev pub RebuildsMakeSteps : Shape → ℕ → ℕ → Job → Type 0
RebuildsMakeSteps g max tries job =
    (answers : List Told) → job.target < chunk_count g → AreTold g max tries job answers → act_after g tries job answers ≡ Act.Finish Outcome.Rebuilt →
    length (reasons_of answers) ≡ 1 → length answers ≡ 2 * chunk_count g + 3
