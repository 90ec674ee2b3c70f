use Rattle.std.proofs.Common.{◌+◌, ◌*◌}
use Rattle.clay_grid.specs.Shape.{row_count}
use Rattle.clay_grid.specs.Layers.{layer_of}
use Rattle.code_laws.specs.Columns.{uncoupled_value, HoldsPieces}
use Rattle.clay_parity.proofs.stripe.write_column.Given as goal

abbrev pub invariant-loop-x : goal.invariant-loop-x
invariant-loop-x l = HoldsPieces l.len l.x (λ x b. uncoupled_value l.fn.g l.stripe (l.at + b) (l.column * row_count l.fn.g + x) (layer_of l.fn.g l.z)) l.values
