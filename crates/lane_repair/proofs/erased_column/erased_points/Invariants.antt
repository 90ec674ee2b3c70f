use Rattle.std.proofs.Common.{◌≡◌}
use Rattle.clay_model.specs.Erased.{erased_below}
use Rattle.lane_repair.proofs.erased_column.erased_points.Given as goal

abbrev pub invariant-loop-node : goal.invariant-loop-node
invariant-loop-node l = l.points.items ≡ erased_below l.erased l.node
