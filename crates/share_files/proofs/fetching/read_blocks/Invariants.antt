use Rattle.std.proofs.Common.{◌≡◌, map, length}
use Rattle.clay_model.specs.Left.{AreLong}
use Rattle.share_format.specs.Blocks.{block_length}
use Rattle.share_files.specs.Seen.{seen}
use Rattle.share_files.specs.Asked.{AreAskedIn}
use Rattle.share_files.specs.Gathered.{AreReadIn}
use Rattle.share_files.proofs.fetching.read_blocks.Given as goal

abbrev pub invariant-loop-share : goal.invariant-loop-share
invariant-loop-share g l = record {
  all : length l.sources ≡ length l.fn.sources;
  count : length l.blocks ≡ length l.fn.blocks;
  lengths : AreLong (block_length l.geometry) l.blocks;
  read : AreReadIn l.geometry l.stripe l.from l.share (map (λ s. seen (g.S.SourceAt.given s) (g.S.SourceAt.ends s) (g.S.SourceAt.failed s)) l.fn.sources) (map (λ s. seen (g.S.SourceAt.given s) (g.S.SourceAt.ends s) (g.S.SourceAt.failed s)) l.sources) l.fn.blocks l.blocks;
  asked : AreAskedIn l.geometry l.stripe (map (λ s. seen (g.S.SourceAt.given s) (g.S.SourceAt.ends s) (g.S.SourceAt.failed s)) l.fn.sources) (map (λ s. seen (g.S.SourceAt.given s) (g.S.SourceAt.ends s) (g.S.SourceAt.failed s)) l.sources);
}
