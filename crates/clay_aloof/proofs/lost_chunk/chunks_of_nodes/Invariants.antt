use Rattle.std.proofs.Common.{◌≡◌, ℕ, ◌<◌, length, get_or, None}
use Rattle.clay_aloof.specs.Rebuilt.{IsEntry}
use Rattle.clay_aloof.proofs.lost_chunk.chunks_of_nodes.Given as goal

abbrev pub invariant-loop-node : goal.invariant-loop-node
invariant-loop-node l = (length l.chunks.items ≡ l.node) × ((i : ℕ) → i < l.node → IsEntry l.g i (get_or l.chunks.items i None))
