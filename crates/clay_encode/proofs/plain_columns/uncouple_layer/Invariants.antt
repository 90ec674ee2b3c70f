use Rattle.code_laws.specs.Columns.{HoldsUncoupled}
use Rattle.clay_encode.proofs.plain_columns.uncouple_layer.Given as goal

abbrev pub invariant-loop-node : goal.invariant-loop-node
invariant-loop-node l = HoldsUncoupled l.g l.stripe l.z l.node l.layer
