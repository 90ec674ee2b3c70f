use Rattle.std.proofs.Common.{◌≡◌, ◌≤◌, ℕ, map, length}
use Rattle.share_files.specs.Seen.{seen, seen_of}
use Rattle.share_run.specs.Heads.{AreHeads}
use Rattle.share_run.proofs.share_heads.read_heads.Given as goal

abbrev pub invariant-loop-share : goal.invariant-loop-share
invariant-loop-share g l = record {
  all : length l.sources ≡ length l.fn.sources;
  count : length l.heads.items ≡ l.share;
  heads : AreHeads (map (λ s. seen (g.S.SourceAt.given s) (g.S.SourceAt.ends s) (g.S.SourceAt.failed s)) l.fn.sources) (map (λ s. seen (g.S.SourceAt.given s) (g.S.SourceAt.ends s) (g.S.SourceAt.failed s)) l.sources) l.heads.items;
  others : (c : ℕ) → l.share ≤ c → seen_of (map (λ s. seen (g.S.SourceAt.given s) (g.S.SourceAt.ends s) (g.S.SourceAt.failed s)) l.sources) c ≡ seen_of (map (λ s. seen (g.S.SourceAt.given s) (g.S.SourceAt.ends s) (g.S.SourceAt.failed s)) l.fn.sources) c;
}
