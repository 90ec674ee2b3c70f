use Rattle.std.proofs.Common.{◌≡◌, ℕ, ◌<◌, length, get_or, false}
use Rattle.lane_repair.specs.Views.{pieces_of}
use Rattle.clay_aloof.specs.Rebuilt.{is_unknown}
use Rattle.clay_aloof.proofs.lost_chunk.solved_nodes.Given as goal

abbrev pub invariant-loop-node : goal.invariant-loop-node
invariant-loop-node l = (length l.nodes.items ≡ l.node) × ((i : ℕ) → i < l.node → get_or l.nodes.items i false ≡ is_unknown l.g l.lost (pieces_of l.parts) i)
