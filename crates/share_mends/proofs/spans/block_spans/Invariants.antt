use Rattle.std.proofs.Common.{◌≡◌, ℕ, ◌+◌, ◌^◌, ◌≤◌, ◌<◌, [], ◌∷◌, ◌++◌, take}
use Rattle.std.specs.Prelude.{All}
use Rattle.share_format.specs.Blocks.{block_length}
use Rattle.share_mends.specs.Places.{places_in}
use Rattle.share_mends.specs.Spans.{ranges_at}
use Rattle.share_mends.proofs.SpanLemmas.{plain_ranges}
use Rattle.share_mends.proofs.spans.block_spans.Given as goal

abbrev pub invariant-loop-layer : goal.invariant-loop-layer
invariant-loop-layer l = record {
  places : (place : ℕ) → places_in (ranges_at place (l.spans.items ++ l.last ∷ [])) ≡ places_in (plain_ranges l.fn.geometry place (take l.layer-index l.fn.layers));
  within : All (λ span. span.start + span.size ≤ block_length l.fn.geometry) l.spans.items;
  last : l.last.start + l.last.size ≤ block_length l.fn.geometry;
  bounded : l.last.start + l.last.size < 2 ^ 21;
}
