use Rattle.std.proofs.Common.{◌≡◌}
use Rattle.clay_grid.specs.Score.{count_below}
use Rattle.clay_c.specs.Helpers.{is_marked, starts_marked}
use Rattle.clay_c.proofs.marks.marked_starts.Given as goal

abbrev pub invariant-loop-mark : goal.invariant-loop-mark
invariant-loop-mark l = record {
  starts : l.starts.items ≡ starts_marked l.marks l.len l.mark-index;
  place : l.place ≡ count_below l.mark-index (is_marked l.marks);
}
