use Rattle.std.proofs.Common.{◌+◌, ◌<◌, ◌≤◌, length, arith}
use Rattle.clay_c.proofs.Marking.{mark_counts, marks_below}
use Rattle.clay_c.proofs.marks.marked_count.Goals as goal

pub overflow_add-count : goal.overflow_add-count
overflow_add-count c =
    let below : c.loop-mark.count + c.from-count.result ≤ c.loop-mark.mark-index + 1 =
    marks_below c.args.marks.now c.loop-mark.mark-index c.loop-mark.count c.from-count.result c.loop-mark.invariant c.from-count.ensures in
    let within : c.loop-mark.mark-index < length c.args.marks.now = omega (arith, c.loop-mark-test.true) in
    omega (arith, below, within, c.requires)

pub loop-mark-preserved : goal.loop-mark-preserved
loop-mark-preserved c = mark_counts c.args.marks.now c.loop-mark.mark-index c.loop-mark.count c.from-count.result c.loop-mark.invariant c.from-count.ensures
