use Rattle.std.proofs.Common.{◌≡◌, ℕ, ◌<◌, length, get_or, cond, nat_lt, Some, None}
use Rattle.clay_aloof.proofs.aloof_chunks.data_chunks.Given as goal

abbrev pub invariant-loop-node : goal.invariant-loop-node
invariant-loop-node l = (length l.chunks.items ≡ l.node) × ((i : ℕ) → i < l.node → get_or l.chunks.items i None ≡ cond (nat_lt i l.g.data_count) (Some i) None)
