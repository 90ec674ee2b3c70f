use Rattle.std.proofs.Common.{◌≡◌, ℕ, List, map, length}
use Rattle.clay_aloof.specs.Shape.{all_chunks}
use Rattle.share_files.specs.Seen.{seen, Show}
use Rattle.share_files.specs.Put.{PutsBlocks}
use Rattle.share_mends.specs.Asked.{AreAsked}
use Rattle.share_mends.specs.Mended.{HaveGood, IsMended}
use Rattle.share_mends.proofs.MendLemmas.{first_ranges}
use Rattle.share_mends.proofs.mending.mend_stripes.Given as goal

abbrev pub invariant-loop-stripe : goal.invariant-loop-stripe
invariant-loop-stripe g l = record {
  shares : length l.sources ≡ all_chunks l.plan.geometry;
  put : PutsBlocks l.plan.geometry (IsMended l.plan.geometry l.plan.lost l.helpers (map (λ s. seen (g.S.SourceAt.given s) (g.S.SourceAt.ends s) (g.S.SourceAt.failed s)) l.sources)) l.stripe (g.K.SinkAt.put l.fn.sink) (g.K.SinkAt.put l.sink);
  good : (files : List (List ℕ)) → Show (map (λ s. seen (g.S.SourceAt.given s) (g.S.SourceAt.ends s) (g.S.SourceAt.failed s)) l.sources) files → HaveGood l.plan.geometry l.plan.lost l.helpers files l.stripe;
  asked : AreAsked l.helpers (first_ranges l.plan.geometry l.plan.lost l.stripe) (all_chunks l.plan.geometry) (map (λ s. seen (g.S.SourceAt.given s) (g.S.SourceAt.ends s) (g.S.SourceAt.failed s)) l.fn.sources) (map (λ s. seen (g.S.SourceAt.given s) (g.S.SourceAt.ends s) (g.S.SourceAt.failed s)) l.sources);
  writes : g.K.SinkAt.faults l.sink ≡ g.K.SinkAt.faults l.fn.sink;
}
