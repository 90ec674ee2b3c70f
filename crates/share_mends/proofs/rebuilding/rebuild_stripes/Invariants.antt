use Rattle.std.proofs.Common.{◌≡◌, ◌<◌, ℕ, map, length}
use Rattle.std.specs.Prelude.{All}
use Rattle.clay_aloof.specs.Shape.{all_chunks}
use Rattle.share_format.specs.Shares.{block_start}
use Rattle.share_files.specs.Seen.{seen, seen_of, failed_since}
use Rattle.share_files.specs.Put.{PutsBlocks}
use Rattle.share_files.specs.Gathered.{Grow}
use Rattle.share_mends.specs.Rebuilt.{IsRebuilt}
use Rattle.share_mends.proofs.rebuilding.rebuild_stripes.Given as goal

abbrev pub invariant-loop-stripe : goal.invariant-loop-stripe
invariant-loop-stripe g l = record {
  sources : length l.sources ≡ all_chunks l.geometry;
  grow : Grow (map (λ s. seen (g.S.SourceAt.given s) (g.S.SourceAt.ends s) (g.S.SourceAt.failed s)) l.fn.sources) (map (λ s. seen (g.S.SourceAt.given s) (g.S.SourceAt.ends s) (g.S.SourceAt.failed s)) l.sources);
  within : (c : ℕ) → All (λ place. place < block_start l.geometry l.stripe) (failed_since (seen_of (map (λ s. seen (g.S.SourceAt.given s) (g.S.SourceAt.ends s) (g.S.SourceAt.failed s)) l.fn.sources) c) (seen_of (map (λ s. seen (g.S.SourceAt.given s) (g.S.SourceAt.ends s) (g.S.SourceAt.failed s)) l.sources) c));
  put : PutsBlocks l.geometry (IsRebuilt l.geometry l.lost (map (λ s. seen (g.S.SourceAt.given s) (g.S.SourceAt.ends s) (g.S.SourceAt.failed s)) l.fn.sources) (map (λ s. seen (g.S.SourceAt.given s) (g.S.SourceAt.ends s) (g.S.SourceAt.failed s)) l.sources)) l.stripe (g.K.SinkAt.put l.fn.sink) (g.K.SinkAt.put l.sink);
  writes : g.K.SinkAt.faults l.sink ≡ g.K.SinkAt.faults l.fn.sink;
}
