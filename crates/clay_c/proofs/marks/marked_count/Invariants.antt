use Rattle.std.proofs.Common.{◌≡◌}
use Rattle.clay_grid.specs.Score.{count_below}
use Rattle.clay_c.specs.Helpers.{is_marked}
use Rattle.clay_c.proofs.marks.marked_count.Given as goal

abbrev pub invariant-loop-mark : goal.invariant-loop-mark
invariant-loop-mark l = l.count ≡ count_below l.mark-index (is_marked l.marks)
