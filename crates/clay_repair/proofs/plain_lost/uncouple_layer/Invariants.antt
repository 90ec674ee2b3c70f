use Rattle.code_laws.specs.Rebuilt.{HoldsOthers}
use Rattle.clay_repair.proofs.plain_lost.uncouple_layer.Given as goal

abbrev pub invariant-loop-node : goal.invariant-loop-node
invariant-loop-node l = HoldsOthers l.g l.plan.lost l.parts l.plan.erased.items l.z l.node l.layer
