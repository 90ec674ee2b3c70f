use Rattle.std.proofs.Common.{◌≡◌, ◌-◌, ◌*◌, map, length}
use Rattle.clay_model.specs.Left.{AreLong}
use Rattle.clay_aloof.specs.Shape.{all_chunks, stripe_bytes}
use Rattle.share_format.specs.Blocks.{block_length}
use Rattle.share_files.specs.Seen.{seen}
use Rattle.share_files.specs.SoFar.{TakesSoFar, AreReadSoFar}
use Rattle.share_files.proofs.joining.join_stripes.Given as goal

abbrev pub invariant-loop-stripe : goal.invariant-loop-stripe
invariant-loop-stripe g l = record {
  sources : length l.sources ≡ all_chunks l.header.shape;
  blocks : length l.blocks ≡ all_chunks l.header.shape;
  lengths : AreLong (block_length l.header.shape) l.blocks;
  missed : length l.missed ≡ all_chunks l.header.shape;
  left : l.left ≡ l.header.size - l.stripe * stripe_bytes l.header.shape;
  taken : TakesSoFar l.header l.stripe l.left (map (λ s. seen (g.S.SourceAt.given s) (g.S.SourceAt.ends s) (g.S.SourceAt.failed s)) l.fn.sources) (map (λ s. seen (g.S.SourceAt.given s) (g.S.SourceAt.ends s) (g.S.SourceAt.failed s)) l.sources) (g.K.Sink.accepted l.fn.sink) (g.K.Sink.written l.fn.sink) (g.K.Sink.accepted l.sink) (g.K.Sink.written l.sink) l.checksum;
  read : AreReadSoFar l.header l.stripe (map (λ s. seen (g.S.SourceAt.given s) (g.S.SourceAt.ends s) (g.S.SourceAt.failed s)) l.fn.sources) (map (λ s. seen (g.S.SourceAt.given s) (g.S.SourceAt.ends s) (g.S.SourceAt.failed s)) l.sources) l.missed;
  writes : g.K.Sink.faults l.sink ≡ g.K.Sink.faults l.fn.sink;
}
