use Rattle.std.proofs.Common.{◌∙◌, sym, ap}
use Rattle.store_core.specs.Placements.{skipped_count}
use Rattle.write_course.specs.Chunks.{PlacingOf}
use Rattle.write_course.proofs.Placements.{away_counted}
use Rattle.write_course.proofs.course_placing.Placing.away.Goals as goal

pub returns : goal.returns
returns c =
    c.len.ensures ∙ c.self.inside.away.ok.0 ∙ sym (away_counted c.self.inside.row.items c.self.inside.away.items c.self.invariant.away)
    ∙ ap (λ (stripe : PlacingOf). skipped_count stripe.row) c.self.view_is
