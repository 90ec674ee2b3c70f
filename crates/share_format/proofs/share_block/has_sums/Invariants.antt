use Rattle.share_format.proofs.Fronts.{HasEach}
use Rattle.share_format.proofs.share_block.has_sums.Given as goal

abbrev pub invariant-loop-layer : goal.invariant-loop-layer
invariant-loop-layer l = HasEach l.fn.g l.chunk l.front l.layer
