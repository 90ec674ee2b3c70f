use Rattle.std.proofs.Common.{ℕ, ◌<◌, get_or}
use Rattle.code_laws.specs.Solved.{HoldsLayer}
use Rattle.clay_decode.proofs.plain_layers.solve_layers.Given as goal

abbrev pub invariant-loop-z : goal.invariant-loop-z
invariant-loop-z l = (k : ℕ) → k < l.z-index → HoldsLayer l.g l.have l.plan.points.items (get_or l.plan.layers.items k 0) l.solved
