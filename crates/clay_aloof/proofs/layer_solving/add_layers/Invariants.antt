use Rattle.std.proofs.Common.{◌≡◌, ℕ, ◌*◌, ◌<◌, length, get_or}
use Rattle.clay_aloof.specs.Solved.{HoldsLayer}
use Rattle.clay_aloof.specs.Known.{node_bytes}
use Rattle.clay_aloof.proofs.layer_solving.add_layers.Given as goal

abbrev pub invariant-loop-z : goal.invariant-loop-z
invariant-loop-z l = record {
  long : length l.solved.items ≡ l.z-index * (length l.plan.points.items * l.g.width);
  each : (k : ℕ) → k < l.z-index → HoldsLayer l.g l.plan (node_bytes l.g l.known) (get_or l.plan.layers.items k 0) l.solved.items;
}
