use Rattle.std.proofs.Common.{◌≡◌, [], map, length, get_or}
use Rattle.clay_model.specs.Chunks.{contents}
use Rattle.file_bytes.specs.Laid.{laid}
use Rattle.share_files.specs.Written.{GainsBlock, AreChanged}
use Rattle.share_files.proofs.stripe_writing.write_blocks.Given as goal

abbrev pub invariant-loop-share : goal.invariant-loop-share
invariant-loop-share g l = record {
  shares : length l.sinks ≡ length l.blocks;
  changed : AreChanged (λ c. GainsBlock l.geometry l.stripe (get_or (contents l.blocks) c [])) l.share (map (λ sink. laid (g.K.SinkAt.put sink)) l.fn.sinks) (map (λ sink. laid (g.K.SinkAt.put sink)) l.sinks);
  steady : map g.K.SinkAt.faults l.sinks ≡ map g.K.SinkAt.faults l.fn.sinks;
}
