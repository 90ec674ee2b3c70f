use Rattle.std.proofs.Common.{◌+◌, ◌*◌}
use Rattle.clay_grid.specs.Layers.{layer_of}
use Rattle.code_laws.specs.Columns.{uncoupled_value}
use Rattle.clay_parity.proofs.ColumnSums.{HoldsSums}
use Rattle.clay_parity.proofs.parity_layers.solve_by_whole_columns.Given as goal

abbrev pub invariant-loop-y : goal.invariant-loop-y
invariant-loop-y l =
    HoldsSums l.fn.g.parity_count l.len l.generator.each (λ i b. uncoupled_value l.fn.g l.stripe (l.at + b) i (layer_of l.fn.g l.z)) (l.y * l.fn.g.parity_count) l.rows
