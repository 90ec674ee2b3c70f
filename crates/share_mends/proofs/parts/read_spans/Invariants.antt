use Rattle.std.proofs.Common.{◌≡◌, take}
use Rattle.share_mends.specs.Places.{GivesAt}
use Rattle.share_mends.specs.Spans.{ranges_at, span_bytes}
use Rattle.share_mends.proofs.parts.read_spans.Given as goal

abbrev pub invariant-loop-span : goal.invariant-loop-span
invariant-loop-span g l = record {
  at : l.at ≡ span_bytes (take l.span-index l.spans);
  given : GivesAt (g.S.SourceAt.given l.fn.source) (ranges_at l.place (take l.span-index l.spans)) (take l.at l.buf) (g.S.SourceAt.given l.source);
  ends : g.S.SourceAt.ends l.source ≡ g.S.SourceAt.ends l.fn.source;
  steady : g.S.SourceAt.failed l.source ≡ g.S.SourceAt.failed l.fn.source;
}
