use Rattle.std.proofs.Common.{◌≡◌, ◌≤◌, false, get_or}
use Rattle.clay_grid.specs.Score.{count_below}
use Rattle.lost_layers.proofs.unknown.marked_count.Given as goal

abbrev pub invariant-loop-mark : goal.invariant-loop-mark
invariant-loop-mark l = (l.count ≡ count_below l.mark-index (λ i. get_or l.marks i false)) × (l.count ≤ l.mark-index)
