use Rattle.std.proofs.Common.{◌≡◌, get_or}
use Rattle.generator_matrix.specs.Distances.{product_below, distance}
use Rattle.generator_matrix.proofs.factors.own_distances.Given as goal

abbrev pub invariant-loop-i : goal.invariant-loop-i
invariant-loop-i l = l.product ≡ product_below l.i (distance l.points l.own (get_or l.points l.own 0))
