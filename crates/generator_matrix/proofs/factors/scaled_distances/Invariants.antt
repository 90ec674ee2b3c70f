use Rattle.std.proofs.Common.{◌≡◌, ℕ, ◌<◌, length, get_or}
use Rattle.clay_field.specs.Field.{product}
use Rattle.generator_matrix.specs.Distances.{product_below, distance}
use Rattle.generator_matrix.proofs.factors.scaled_distances.Given as goal

abbrev pub invariant-loop-i : goal.invariant-loop-i
invariant-loop-i l =
    (length l.products ≡ 16)
    × ((k : ℕ) → k < 16 → get_or l.products k 0 ≡ product (product_below l.i (distance l.points l.own (get_or l.nodes k 0))) l.scale)
