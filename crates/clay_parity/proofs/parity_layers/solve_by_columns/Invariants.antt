use Rattle.std.proofs.Common.{◌+◌, ◌*◌}
use Rattle.clay_grid.specs.Layers.{layer_of}
use Rattle.code_laws.specs.Columns.{uncoupled_value}
use Rattle.generator_matrix.specs.Columns.{IsColumnForm}
use Rattle.generator_matrix.proofs.ColumnLaws.{known_sum}
use Rattle.clay_parity.proofs.parity_layers.solve_by_columns.Given as goal

abbrev pub invariant-loop-y : goal.invariant-loop-y
invariant-loop-y l =
    IsColumnForm l.len (known_sum l.generator.each (λ i b. uncoupled_value l.fn.g l.stripe (l.at + b) i (layer_of l.fn.g l.z)) (l.y * 4)) l.rows
