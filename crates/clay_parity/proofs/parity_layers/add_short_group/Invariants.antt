use Rattle.std.proofs.Common.{◌≡◌, ℕ, ◌*◌, ◌<◌, ◌≤◌, [], get_or}
use Rattle.clay_model.specs.Chunks.{contents}
use Rattle.clay_parity.specs.Blocks.{Appends}
use Rattle.clay_parity.specs.Short.{short_coupled}
use Rattle.clay_parity.proofs.parity_layers.add_short_group.Given as goal

abbrev pub invariant-loop-x : goal.invariant-loop-x
invariant-loop-x l = record {
  done : (i : ℕ) → i < l.x → Appends (l.fn.g.parity_count * l.fn.g.width) (short_coupled l.fn.g.parity_count l.fn.g.width l.rows i) (get_or (contents l.fn.chunks) i []) (get_or (contents l.chunks) i []);
  left : (i : ℕ) → l.x ≤ i → get_or (contents l.chunks) i [] ≡ get_or (contents l.fn.chunks) i [];
}
