use Rattle.std.proofs.Common.{◌≡◌, ◌+◌}
use Rattle.clay_grid.specs.Score.{count_below}
use Rattle.lost_layers.specs.ErasedLayers.{is_solved_for}
use Rattle.lost_layers.specs.ErasedRuns.{erased_of}
use Rattle.lost_layers.proofs.erased.ErasedRun.is_solved.Given as goal

abbrev pub invariant-loop-place : goal.invariant-loop-place
invariant-loop-place l = count_below l.place (λ d. is_solved_for (erased_of l.self) (l.self.placed.run.from + d) l.layer) ≡ 0
