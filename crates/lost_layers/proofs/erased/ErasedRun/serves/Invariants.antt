use Rattle.std.proofs.Common.{◌≡◌, not}
use Rattle.clay_grid.specs.Score.{count_below}
use Rattle.lost_layers.specs.ErasedLayers.{digit_serves}
use Rattle.lost_layers.specs.ErasedRuns.{erased_of}
use Rattle.lost_layers.proofs.erased.ErasedRun.serves.Given as goal

abbrev pub invariant-loop-column : goal.invariant-loop-column
invariant-loop-column l = count_below l.column (λ y. not (digit_serves (erased_of l.self) l.wanted l.layer y)) ≡ 0
