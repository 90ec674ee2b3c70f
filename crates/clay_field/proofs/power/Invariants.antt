use Rattle.std.proofs.Common.{◌≡◌, ◌^◌, ◌<◌}
use Rattle.clay_field.specs.Field.{product, power_of}
use Rattle.clay_field.proofs.power.Given as goal

abbrev pub invariant-loop-left : goal.invariant-loop-left
invariant-loop-left l = (product l.done (power_of l.square l.left) ≡ power_of l.a l.e) × (l.done < 2 ^ 8)

abbrev pub decreases-loop-left : goal.decreases-loop-left
decreases-loop-left l = l.left
