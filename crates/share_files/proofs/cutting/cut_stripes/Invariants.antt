use Rattle.std.proofs.Common.{◌≡◌, ◌≤◌, ◌<◌, ◌+◌, ◌-◌, ◌*◌, ◌^◌, true, map, length}
use Rattle.clay_bytes.specs.Stream.{IsSpent}
use Rattle.clay_aloof.specs.Shape.{all_chunks, stripe_bytes}
use Rattle.file_bytes.specs.Laid.{laid}
use Rattle.share_files.specs.Cut.{AreCutSoFar}
use Rattle.share_files.proofs.cutting.cut_stripes.Given as goal

abbrev pub invariant-stripes : goal.invariant-stripes
invariant-stripes g l = record {
  shares : length l.sinks ≡ all_chunks l.geometry;
  stripe : length l.stripe ≡ stripe_bytes l.geometry;
  cut : AreCutSoFar l.geometry (g.S.Source.given l.fn.source) (g.S.Source.left l.fn.source) (g.S.Source.given l.source) (g.S.Source.left l.source) l.size l.checksum (map (λ sink. laid (g.K.SinkAt.put sink)) l.sinks);
  whole : l.last ≡ length l.stripe → l.size ≡ l.number * stripe_bytes l.geometry;
  within : l.last ≤ length l.stripe;
  fits : l.size ≤ 2 ^ 56;
  told : l.last < length l.stripe → g.S.Source.ended l.source ≡ true;
  spent : l.last < length l.stripe → IsSpent (g.S.Source.left l.source);
  reads : g.S.Source.faults l.source ≡ g.S.Source.faults l.fn.source;
  writes : map g.K.SinkAt.faults l.sinks ≡ map g.K.SinkAt.faults l.fn.sinks;
}

abbrev pub decreases-stripes : goal.decreases-stripes
decreases-stripes g l = 2 ^ 56 + l.last - l.size
