use Rattle.std.proofs.Common.{◌≡◌, ℕ, ◌+◌, ◌*◌, ◌<◌, length, get_or}
use Rattle.clay_field.specs.Field.{product}
use Rattle.clay_grid.specs.Layers.{layer_of}
use Rattle.clay_model.specs.Sums.{sum_below}
use Rattle.code_laws.specs.Columns.{uncoupled_value}
use Rattle.generator_matrix.specs.Generated.{factor_at}
use Rattle.clay_parity.proofs.parity_layers.solve_by_nodes.Given as goal

abbrev pub invariant-loop-node : goal.invariant-loop-node
invariant-loop-node l =
    (e b : ℕ) → e < l.fn.g.parity_count → b < length l.fn.values → get_or l.rows (e * length l.fn.values + b) 0
    ≡ sum_below l.node (λ i. product (factor_at l.generator.each l.fn.g.parity_count i e) (uncoupled_value l.fn.g l.stripe (l.at + b) i (layer_of l.fn.g l.z)))
