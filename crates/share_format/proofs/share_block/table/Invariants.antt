use Rattle.std.proofs.Common.{◌≡◌}
use Rattle.share_format.proofs.Laid.{entries_below}
use Rattle.share_format.proofs.share_block.table.Given as goal

abbrev pub invariant-loop-layer : goal.invariant-loop-layer
invariant-loop-layer l = l.table.items ≡ entries_below l.fn.g l.chunk l.layer
