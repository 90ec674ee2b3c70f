use Rattle.std.proofs.Common.{◌≡◌, ℕ, ◌<◌, length, get_or, false}
use Rattle.clay_aloof.specs.Recovered.{is_gone_node}
use Rattle.aloof_recovery.proofs.recovery.missing_nodes.Given as goal

abbrev pub invariant-loop-node : goal.invariant-loop-node
invariant-loop-node l = (length l.nodes.items ≡ l.node) × ((i : ℕ) → i < l.node → get_or l.nodes.items i false ≡ is_gone_node l.g l.missing i)
