use Rattle.std.proofs.Common.{◌≡◌, ◌≤◌, ℕ, List, map, length, vec_capacity}
use Rattle.clay_aloof.specs.Shape.{all_chunks}
use Rattle.share_format.specs.Mend.{block_ranges}
use Rattle.share_files.specs.Seen.{seen, Show}
use Rattle.share_mends.specs.Asked.{AreAsked}
use Rattle.share_mends.specs.Gathered.{AreParts, ArePartsOf}
use Rattle.share_mends.proofs.gathering.read_parts.Given as goal

abbrev pub invariant-loop-share : goal.invariant-loop-share
invariant-loop-share g l = record {
  shares : length l.sources ≡ all_chunks l.plan.geometry;
  room : all_chunks l.plan.geometry ≤ vec_capacity l.parts;
  parts : AreParts l.plan.geometry l.helpers l.share l.parts.items;
  good : (files : List (List ℕ)) → Show (map (λ s. seen (g.S.SourceAt.given s) (g.S.SourceAt.ends s) (g.S.SourceAt.failed s)) l.sources) files → ArePartsOf l.plan.geometry l.plan.lost files l.stripe l.share l.parts.items;
  asked : AreAsked l.helpers (block_ranges l.plan.geometry l.plan.lost l.stripe) l.share (map (λ s. seen (g.S.SourceAt.given s) (g.S.SourceAt.ends s) (g.S.SourceAt.failed s)) l.fn.sources) (map (λ s. seen (g.S.SourceAt.given s) (g.S.SourceAt.ends s) (g.S.SourceAt.failed s)) l.sources);
}
