use Rattle.std.proofs.Common.{◌≡◌, ℕ, ◌+◌, ◌<◌, length, get_or}
use Rattle.generator_matrix.proofs.factors.block_at.Given as goal

abbrev pub invariant-loop-k : goal.invariant-loop-k
invariant-loop-k l = (length l.block ≡ 16) × ((i : ℕ) → i < l.k → get_or l.block i 0 ≡ get_or l.nodes (l.at + i) 0)
