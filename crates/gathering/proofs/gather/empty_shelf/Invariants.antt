use Rattle.std.proofs.Common.{◌≡◌, replicate, None}
use Rattle.gathering.proofs.gather.empty_shelf.Given as goal

abbrev pub invariant-loop-made : goal.invariant-loop-made
invariant-loop-made l = l.shelf.items ≡ replicate l._made None
