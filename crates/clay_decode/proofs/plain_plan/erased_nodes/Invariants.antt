use Rattle.std.proofs.Common.{◌≡◌, ℕ, ◌<◌, length, get_or, false}
use Rattle.code_laws.specs.Solved.{is_erased}
use Rattle.clay_decode.proofs.plain_plan.erased_nodes.Given as goal

abbrev pub invariant-loop-node : goal.invariant-loop-node
invariant-loop-node l = (length l.erased.items ≡ l.node) × ((i : ℕ) → i < l.node → get_or l.erased.items i false ≡ is_erased l.g l.have i)
