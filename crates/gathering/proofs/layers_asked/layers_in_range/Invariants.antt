use Rattle.std.proofs.Common.{◌≡◌}
use Rattle.gathering.proofs.Layered.{layers_below}
use Rattle.gathering.proofs.layers_asked.layers_in_range.Given as goal

abbrev pub invariant-loop-z : goal.invariant-loop-z
invariant-loop-z l = l.layers.items ≡ layers_below l.start l.end l.width l.z
