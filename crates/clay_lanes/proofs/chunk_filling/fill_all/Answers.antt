use Rattle.std.proofs.Common.{◌≡◌, ◌+◌, ◌*◌, length, get_or, is_none, None, subst, sym, ◌∙◌, arith}
use Rattle.std.proofs.lemmas.Bool.{eqb-true}
use Rattle.clay_grid.specs.Shape.{chunk_length}
use Rattle.clay_lanes.specs.Present.{FitsChunks}
use Rattle.clay_lanes.specs.Places.{HoldsPlace}
use Rattle.clay_lanes.specs.Standing.{left_pieces}
use Rattle.clay_lanes.proofs.PlaceLemmas.{filled_whole}
use Rattle.clay_lanes.proofs.FillLemmas.{nothing_gone}
use Rattle.clay_lanes.proofs.chunk_filling.fill_all.Goals as goal

pub returns-then-is_empty-clause-filled : goal.returns-then-is_empty-clause-filled
returns-then-is_empty-clause-filled c =
    let g = c.args.g in
    let points = c.args.plan.now.points in
    let empty : points.len ≡ 0 = eqb-true points.len 0 (sym c.is_empty.ensures ∙ c.if-is_empty.true) in
    let none : length points.items ≡ 0 = omega (arith, empty, points.ok.0) in
    record {
      missing = λ i p hi hp gone. absurd (nothing_gone g (left_pieces c.args.left c.args.chunks.now (chunk_length g)) c.args.plan.now c.requires.plan none i hi gone);
      there = λ i p hi hp some. λ k. get_or c.args.chunks.now (i * chunk_length g + p) 0;
    }

pub fill_parts-requires-clause-filling : goal.fill_parts-requires-clause-filling
fill_parts-requires-clause-filling c = record {
  planned = record { plan = c.requires.plan; chunks = c.requires.left; within = omega (arith, c.w.ensures.value) };
  places = c.requires.places;
  long = c.requires.chunks_len;
}

pub returns-clause-filled : goal.returns-clause-filled
returns-clause-filled c =
    let g = c.args.g in
    let pieces = left_pieces c.args.left c.args.chunks.now (chunk_length g) in
    let wide = c.w.ensures.geometry.limits.width.0 in
    let new = c.fill_parts.new.chunks in
    filled_whole g (λ word. FitsChunks g pieces word) (λ i. is_none (get_or pieces i None)) c.args.chunks.now new (omega arith)
    (λ i hi none z b hz hb.
    let flat : 0 + b ≡ b = omega arith in
    subst (λ v. HoldsPlace g (λ word. FitsChunks g pieces word) i new (z * g.width + v)) flat
    (c.fill_parts.ensures.written i hi none z b hz (omega (arith, hb, c.w.ensures.value))))
    c.fill_parts.ensures.kept
