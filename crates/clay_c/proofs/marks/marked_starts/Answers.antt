use Rattle.std.proofs.Common.{◌+◌, ◌*◌, ◌<◌, ◌≤◌, eqb, cond, get_or, length, Some, None, ap, ◌∙◌, arith}
use Rattle.clay_grid.specs.Score.{count_below}
use Rattle.clay_grid.proofs.Counting.{count_below-le}
use Rattle.clay_c.specs.Helpers.{is_marked}
use Rattle.clay_c.proofs.Shown.{starts_more}
use Rattle.clay_c.proofs.Marking.{mark_counts, marks_below}
use Rattle.clay_c.proofs.marks.marked_starts.Goals as goal

pub loop-mark-preserved : goal.loop-mark-preserved
loop-mark-preserved c =
    let marks = c.args.marks.now in
    let at = c.loop-mark.mark-index in
    record {
      starts = c.in_ok-push.ensures.items
          ∙ starts_more (λ k. cond (eqb (get_or marks k 0) 0) None (Some (count_below k (is_marked marks) * c.args.len))) c.loop-mark.starts.items c.piece_start.result at
          (c.piece_start.ensures ∙ ap (λ p. cond (eqb (get_or marks at 0) 0) None (Some (p * c.args.len))) c.loop-mark.invariant.place) c.loop-mark.invariant.starts;
      place = mark_counts marks at c.loop-mark.place c.from-place.result c.loop-mark.invariant.place c.from-place.ensures;
    }

pub piece_start-requires : goal.piece_start-requires
piece_start-requires c =
    let within : c.loop-mark.mark-index < length c.args.marks.now = omega (arith, c.loop-mark-test.true) in
    let most : count_below c.loop-mark.mark-index (is_marked c.args.marks.now) ≤ c.loop-mark.mark-index = count_below-le c.loop-mark.mark-index (is_marked c.args.marks.now) in
    omega (arith, within, most, c.loop-mark.invariant.place, c.requires)

pub overflow_add-place : goal.overflow_add-place
overflow_add-place c =
    let below : c.loop-mark.place + c.from-place.result ≤ c.loop-mark.mark-index + 1 =
    marks_below c.args.marks.now c.loop-mark.mark-index c.loop-mark.place c.from-place.result c.loop-mark.invariant.place c.from-place.ensures in
    let within : c.loop-mark.mark-index < length c.args.marks.now = omega (arith, c.loop-mark-test.true) in
    omega (arith, below, within, c.requires)
