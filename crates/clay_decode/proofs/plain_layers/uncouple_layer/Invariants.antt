use Rattle.code_laws.specs.Solved.{HoldsPresent}
use Rattle.clay_decode.proofs.plain_layers.uncouple_layer.Given as goal

abbrev pub invariant-loop-node : goal.invariant-loop-node
invariant-loop-node l = HoldsPresent l.g l.have l.plan.erased.items l.z l.node l.layer
