use Rattle.std.proofs.Common.{◌≡◌, ℕ, ◌*◌, ◌<◌, ◌≤◌, [], get_or}
use Rattle.clay_model.specs.Chunks.{contents}
use Rattle.clay_parity.specs.Blocks.{Appends, piece_bytes}
use Rattle.clay_parity.proofs.parity_layers.add_group.Given as goal

abbrev pub invariant-loop-x : goal.invariant-loop-x
invariant-loop-x l = record {
  done : (i : ℕ) → i < l.x → Appends (l.fn.g.parity_count * l.fn.g.width) (piece_bytes l.fn.g.parity_count l.fn.g.width l.group i) (get_or (contents l.fn.chunks) i []) (get_or (contents l.chunks) i []);
  left : (i : ℕ) → l.x ≤ i → get_or (contents l.chunks) i [] ≡ get_or (contents l.fn.chunks) i [];
}
