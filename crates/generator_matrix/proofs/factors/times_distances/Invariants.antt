use Rattle.std.proofs.Common.{◌≡◌, ℕ, ◌<◌, ◌≤◌, get_or, bit_xor}
use Rattle.clay_field.specs.Field.{product}
use Rattle.generator_matrix.proofs.factors.times_distances.Given as goal

abbrev pub invariant-loop-k : goal.invariant-loop-k
invariant-loop-k l =
    ((i : ℕ) → i < l.k → get_or l.values i 0 ≡ product (get_or l.initial.values i 0) (bit_xor (get_or l.nodes i 0) l.point))
    × ((i : ℕ) → l.k ≤ i → get_or l.values i 0 ≡ get_or l.initial.values i 0)
