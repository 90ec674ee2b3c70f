-- The reads that a mend makes of a block.
use Rattle.std.specs.Prelude.{◌≡◌, ◌≤◌, ◌<◌, ℕ, ◌+◌, List, [], ◌∷◌, ◌++◌, length, map, All}
use Rattle.clay_aloof.specs.Shape.{AloofShape, all_chunks}
use Rattle.clay_aloof.specs.Limits.{IsAloof}
use Rattle.clay_aloof.specs.Repair.{aloof_layers_of}
use Rattle.share_format.specs.Mend.{Range, range_of, block_ranges}
use Rattle.share_format.specs.Blocks.{block_length}
use Rattle.share_format.specs.Shares.{block_start}
use Rattle.share_mends.specs.Places.{places_in}
use Rattle.share_mends.specs.declared.spans.Span.{Span}
use Rattle.share_mends.specs.declared.spans.MendPlan.{MendPlan}

-- a span of the block that begins at a place
abbrev pub range_at : ℕ → Span → Range
range_at place span = range_of (place + span.start) span.size

abbrev pub ranges_at : ℕ → List Span → List Range
ranges_at place spans = map (range_at place) spans

-- the bytes in some spans
abbrev pub span_bytes : List Span → ℕ
span_bytes [] = 0
span_bytes (span ∷ spans) = span.size + span_bytes spans

-- spans within a block, at the places that a mend of the lost share reads in it
pub record AreSpans (a : AloofShape) (lost : ℕ) (spans : List Span) : Type 0 where
  pub places : (i : ℕ) → places_in (ranges_at (block_start a i) spans) ≡ places_in (block_ranges a lost i)
  pub within : All (λ span. span.start + span.size ≤ block_length a) spans

-- a file ends before the end of a span of the block that begins at a place
abbrev pub IsShort : ℕ → Span → List ℕ → Type 0
IsShort place span file = (0 < span.size) × (length file < place + span.start + span.size)

-- before that of one of some spans
pub record AreShort (place : ℕ) (spans : List Span) (file : List ℕ) : Type 0 where
  pub before : List Span
  pub span : Span
  pub behind : List Span
  pub one : spans ≡ before ++ (span ∷ behind)
  pub short : IsShort place span file

-- the layers of a repair of the lost share's chunk, and the spans of a block that have them
pub record IsMendPlan (plan : MendPlan) : Type 0 where
  pub aloof : IsAloof plan.geometry
  pub lost : plan.lost < all_chunks plan.geometry
  pub layers : plan.layers.items ≡ aloof_layers_of plan.geometry plan.lost
  pub spans : AreSpans plan.geometry plan.lost plan.spans.items
