use Rattle.std.proofs.Common.{◌≡◌, ◌≤◌, ◌*◌, length, take}
use Rattle.std.specs.Prelude.{flat_map}
use Rattle.session_rules.specs.Replies.{lost_bytes}
use Rattle.frame_bytes.proofs.lengths.lost_length.Given as goal

abbrev pub invariant-loop-chunk : goal.invariant-loop-chunk
invariant-loop-chunk l = record {
  exact : l.total ≡ length (flat_map lost_bytes (take l.chunk-index l.lost));
  bound : l.total ≤ 73 * l.chunk-index;
}
