use Rattle.clay_aloof.proofs.Layer.{HoldsSums}
use Rattle.clay_aloof.specs.Known.{node_bytes}
use Rattle.clay_aloof.proofs.layer_solving.solve_layer.Given as goal

abbrev pub invariant-loop-node : goal.invariant-loop-node
invariant-loop-node l = HoldsSums l.g l.plan (node_bytes l.g l.known) l.z l.node l.rows
