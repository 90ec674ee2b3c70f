use Rattle.std.proofs.Common.{◌≡◌, map, length}
use Rattle.clay_aloof.specs.Shape.{all_chunks}
use Rattle.file_bytes.specs.Laid.{laid}
use Rattle.share_files.specs.Written.{GainsHeader, AreChanged}
use Rattle.share_files.proofs.stripe_writing.write_headers.Given as goal

abbrev pub invariant-loop-share : goal.invariant-loop-share
invariant-loop-share g l = record {
  shares : length l.sinks ≡ all_chunks l.geometry;
  changed : AreChanged (λ c. GainsHeader l.geometry l.size l.checksum c) l.share (map (λ sink. laid (g.K.SinkAt.put sink)) l.fn.sinks) (map (λ sink. laid (g.K.SinkAt.put sink)) l.sinks);
  steady : map g.K.SinkAt.faults l.sinks ≡ map g.K.SinkAt.faults l.fn.sinks;
}
