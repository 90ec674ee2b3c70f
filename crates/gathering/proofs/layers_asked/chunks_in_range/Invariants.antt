use Rattle.std.proofs.Common.{◌≡◌}
use Rattle.gathering.proofs.Layered.{layers_below}
use Rattle.gathering.proofs.layers_asked.chunks_in_range.Given as goal

abbrev pub invariant-loop-z : goal.invariant-loop-z
invariant-loop-z l = l.chunks.items ≡ layers_below l.start l.end l.width l.z
