use Rattle.std.proofs.Common.{◌≡◌, ℕ, ◌<◌, length, get_or, false, not, nat_lt}
use Rattle.clay_aloof.proofs.aloof_chunks.parity_nodes.Given as goal

abbrev pub invariant-loop-node : goal.invariant-loop-node
invariant-loop-node l = (length l.nodes.items ≡ l.node) × ((i : ℕ) → i < l.node → get_or l.nodes.items i false ≡ not (nat_lt i l.first))
