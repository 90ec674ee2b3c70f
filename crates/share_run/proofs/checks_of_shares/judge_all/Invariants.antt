use Rattle.std.proofs.Common.{◌≡◌, ◌≤◌, ℕ, map, length}
use Rattle.share_files.specs.Seen.{seen, seen_of}
use Rattle.share_run.specs.Check.{AreVerdicts}
use Rattle.share_run.proofs.checks_of_shares.judge_all.Given as goal

abbrev pub invariant-loop-share : goal.invariant-loop-share
invariant-loop-share g l = record {
  all : length l.sources ≡ length l.fn.sources;
  count : length l.verdicts ≡ length l.fn.verdicts;
  judged : AreVerdicts l.header l.share (map (λ s. seen (g.S.SourceAt.given s) (g.S.SourceAt.ends s) (g.S.SourceAt.failed s)) l.fn.sources) (map (λ s. seen (g.S.SourceAt.given s) (g.S.SourceAt.ends s) (g.S.SourceAt.failed s)) l.sources) l.verdicts;
  others : (c : ℕ) → l.share ≤ c → seen_of (map (λ s. seen (g.S.SourceAt.given s) (g.S.SourceAt.ends s) (g.S.SourceAt.failed s)) l.sources) c ≡ seen_of (map (λ s. seen (g.S.SourceAt.given s) (g.S.SourceAt.ends s) (g.S.SourceAt.failed s)) l.fn.sources) c;
}
