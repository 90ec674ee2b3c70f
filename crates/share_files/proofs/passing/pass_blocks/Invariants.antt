use Rattle.std.proofs.Common.{◌≡◌, ◌≤◌, ◌-◌, ◌*◌, ◌++◌, ℕ, List, take}
use Rattle.crc64.specs.Remainder.{checksum_of}
use Rattle.clay_bytes.specs.Stream.{Accepts}
use Rattle.clay_grid.specs.Shape.{chunk_length}
use Rattle.clay_aloof.specs.Shape.{grid_of}
use Rattle.share_files.specs.Handed.{data_in}
use Rattle.share_files.proofs.passing.pass_blocks.Given as goal

abbrev pub invariant-loop-share : goal.invariant-loop-share
invariant-loop-share g l = record {
  left : l.left ≡ l.count - l.share * chunk_length (grid_of l.geometry);
  most : l.left ≤ l.count;
  accepted : Accepts (g.K.Sink.accepted l.fn.sink) (g.K.Sink.written l.fn.sink) (take (l.count - l.left) (data_in l.geometry l.blocks)) (g.K.Sink.accepted l.sink) (g.K.Sink.written l.sink);
  summed : (before : List ℕ) → l.checksum ≡ checksum_of before → l.sum ≡ checksum_of (before ++ take (l.count - l.left) (data_in l.geometry l.blocks));
  writes : g.K.Sink.faults l.sink ≡ g.K.Sink.faults l.fn.sink;
}
