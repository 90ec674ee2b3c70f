-- The spans of a block, joined one by one.
use Rattle.std.proofs.Common.{◌≡◌, ℕ, zero, suc, ◌+◌, ◌*◌, List, [], ◌∷◌, ◌++◌, map, sym, ap, ◌∙◌, arith, append-nil, append_assoc}
use Rattle.std.specs.List.{range_with_len}
use Rattle.std.proofs.lemmas.List.{map-append}
use Rattle.std.proofs.lemmas.List.Concat.{flat_map-append}
use Rattle.clay_aloof.specs.Shape.{AloofShape}
use Rattle.share_format.specs.Mend.{Range, range_of}
use Rattle.share_format.specs.Blocks.{chunk_start}
use Rattle.share_mends.specs.Places.{places_in}
use Rattle.share_mends.specs.Spans.{range_at, ranges_at}
use Rattle.share_mends.specs.declared.spans.Span.{Span}

-- the places of two ranges of which one begins at the other's end
pub rows_joined : (s a b : ℕ) → range_with_len s (a + b) ≡ range_with_len s a ++ range_with_len (s + a) b
rows_joined s zero b =
    let none : zero + b ≡ b = omega arith in
    let same : s ≡ s + zero = omega arith in
    ap (range_with_len s) none ∙ ap (λ p. range_with_len p b) same
rows_joined s (suc a) b =
    let more : suc a + b ≡ suc (a + b) = omega arith in
    let moved : s + 1 + a ≡ s + suc a = omega arith in
    ap (range_with_len s) more ∙ ap (λ l. s ∷ l) (rows_joined (s + 1) a b ∙ ap (λ p. range_with_len (s + 1) a ++ range_with_len p b) moved)

pub places_push : (ranges : List Range) (range : Range) → places_in (ranges ++ range ∷ []) ≡ places_in ranges ++ range_with_len range.start range.size
places_push ranges range =
    flat_map-append (λ (r : Range). range_with_len r.start r.size) ranges (range ∷ [])
    ∙ ap (λ l. places_in ranges ++ l) (append-nil (range_with_len range.start range.size))

pub span_push : (place : ℕ) (spans : List Span) (span : Span)
    → places_in (ranges_at place (spans ++ span ∷ [])) ≡ places_in (ranges_at place spans) ++ range_with_len (place + span.start) span.size
span_push place spans span = ap places_in (map-append (range_at place) spans (span ∷ [])) ∙ places_push (ranges_at place spans) (range_at place span)

-- the ranges of a table and of the subchunks of some layers
abbrev pub plain_ranges : AloofShape → ℕ → List ℕ → List Range
plain_ranges a place layers = range_of place (chunk_start a) ∷ map (λ layer. range_of (place + chunk_start a + layer * a.width) a.width) layers

pub plain_first : (a : AloofShape) (place : ℕ) (span : Span) → span.start ≡ 0 → span.size ≡ chunk_start a
    → places_in (ranges_at place ([] ++ span ∷ [])) ≡ places_in (plain_ranges a place [])
plain_first a place span start size =
    let same : place + span.start ≡ place = omega (arith, start) in
    λ i. range_with_len (same i) (size i) ++ []

plain_push : (a : AloofShape) (place : ℕ) (layers : List ℕ) (layer : ℕ)
    → places_in (plain_ranges a place (layers ++ layer ∷ [])) ≡ places_in (plain_ranges a place layers) ++ range_with_len (place + (chunk_start a + layer * a.width)) a.width
plain_push a place layers layer =
    let there : place + chunk_start a + layer * a.width ≡ place + (chunk_start a + layer * a.width) = omega arith in
    ap (λ l. places_in (range_of place (chunk_start a) ∷ l)) (map-append (λ z. range_of (place + chunk_start a + z * a.width) a.width) layers (layer ∷ []))
    ∙ places_push (plain_ranges a place layers) (range_of (place + chunk_start a + layer * a.width) a.width)
    ∙ ap (λ p. places_in (plain_ranges a place layers) ++ range_with_len p a.width) there

-- a span that begins at another's end, as one with it
pub span_joined : (place : ℕ) (spans : List Span) (last next longer : Span) → longer.start ≡ last.start → longer.size ≡ last.size + next.size → last.start + last.size ≡ next.start
    → places_in (ranges_at place (spans ++ longer ∷ [])) ≡ places_in (ranges_at place ((spans ++ last ∷ []) ++ next ∷ []))
span_joined place spans last next longer from long touch =
    let moved : place + last.start + last.size ≡ place + next.start = omega (arith, touch) in
    span_push place spans longer
    ∙ (λ i. places_in (ranges_at place spans) ++ range_with_len (place + from i) (long i))
    ∙ ap (λ l. places_in (ranges_at place spans) ++ l) (rows_joined (place + last.start) last.size next.size)
    ∙ ap (λ p. places_in (ranges_at place spans) ++ (range_with_len (place + last.start) last.size ++ range_with_len p next.size)) moved
    ∙ sym (append_assoc (places_in (ranges_at place spans)) (range_with_len (place + last.start) last.size) (range_with_len (place + next.start) next.size))
    ∙ ap (λ l. l ++ range_with_len (place + next.start) next.size) (sym (span_push place spans last))
    ∙ sym (span_push place (spans ++ last ∷ []) next)

-- one layer more
pub layer_more : (a : AloofShape) (place : ℕ) (spans : List Span) (next : Span) (layers : List ℕ) (layer : ℕ) → places_in (ranges_at place spans) ≡ places_in (plain_ranges a place layers)
    → next.start ≡ chunk_start a + layer * a.width → next.size ≡ a.width → places_in (ranges_at place (spans ++ next ∷ [])) ≡ places_in (plain_ranges a place (layers ++ layer ∷ []))
layer_more a place spans next layers layer so start size =
    span_push place spans next ∙ (λ i. so i ++ range_with_len (place + start i) (size i)) ∙ sym (plain_push a place layers layer)
