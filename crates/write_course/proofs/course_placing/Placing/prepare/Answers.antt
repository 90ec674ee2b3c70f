use Rattle.std.proofs.Common.{◌≡◌, ◌+◌, ◌<◌, length, ap, subst, sym, ◌∙◌, arith}
use Rattle.std.proofs.lemmas.List.{length_push}
use Rattle.clay_grid.specs.Shape.{chunk_count}
use Rattle.clay_model.specs.Chunks.{contents}
use Rattle.write_course.specs.Chunks.{PlacingOf}
use Rattle.write_course.proofs.Placements.{skipped_few, away_counted}
use Rattle.write_course.proofs.Kept.{chunks_next}
use Rattle.write_course.proofs.course_placing.Placing.prepare.Goals as goal

pub note_placement-requires-clause-away_room : goal.note_placement-requires-clause-away_room
note_placement-requires-clause-away_room c =
    let a = c.self.inside in
    let left : length a.row.items < chunk_count a.geometry = subst (λ (stripe : PlacingOf). length stripe.row < chunk_count stripe.geometry) (sym c.self.view_is) c.requires.left in
    omega (arith, skipped_few a.row.items, away_counted a.row.items a.away.items c.self.invariant.away, c.self.invariant.away_room)

pub invariant_of-placing : goal.invariant_of-placing
invariant_of-placing c =
    let a = c.self.inside in
    let noted = c.note_placement.ensures in
    let left : length a.row.items < chunk_count a.geometry = subst (λ (stripe : PlacingOf). length stripe.row < chunk_count stripe.geometry) (sym c.self.view_is) c.requires.left in
    let more : length c.note_placement.new.row.items ≡ length a.row.items + 1 = ap length noted.row ∙ length_push a.row.items c.in_ok-placement.placement in
    record {
      chunks = chunks_next a.geometry a.stamp.content (length a.row.items) (length c.note_placement.new.row.items) _ _ _ c.self.invariant.chunks (ap contents c.in-Some.ensures.items) more;
      away = noted.away;
      within = omega arith;
      row_room = omega (arith, noted.row_same, c.self.invariant.row_room);
      away_room = omega (arith, noted.away_same, c.self.invariant.away_room);
    }
