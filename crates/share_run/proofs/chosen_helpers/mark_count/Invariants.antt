use Rattle.std.proofs.Common.{◌≡◌}
use Rattle.clay_grid.specs.Score.{count_below}
use Rattle.share_mends.specs.Asked.{helps}
use Rattle.share_run.proofs.chosen_helpers.mark_count.Given as goal

abbrev pub invariant-loop-mark : goal.invariant-loop-mark
invariant-loop-mark l = l.count ≡ count_below l.mark-index (helps l.marks)
