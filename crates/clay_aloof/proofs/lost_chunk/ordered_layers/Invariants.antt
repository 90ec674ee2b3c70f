use Rattle.std.proofs.Common.{◌≡◌, take}
use Rattle.clay_aloof.specs.Rebuilt.{kept_layers}
use Rattle.clay_aloof.proofs.lost_chunk.ordered_layers.Given as goal

abbrev pub invariant-loop-z : goal.invariant-loop-z
invariant-loop-z l = l.layers.items ≡ kept_layers l.g l.x l.y (take l.z-index l.order)
