use Rattle.std.proofs.Common.{◌<◌, ◌≤◌, length, arith}
use Rattle.clay_grid.specs.Score.{count_below}
use Rattle.clay_grid.proofs.Counting.{count_below-le}
use Rattle.share_mends.specs.Asked.{helps}
use Rattle.share_run.proofs.chosen_helpers.mark_count.Goals as goal

pub overflow_add-count : goal.overflow_add-count
overflow_add-count c =
    let most : count_below c.loop-mark.mark-index (helps c.args.marks.now) ≤ c.loop-mark.mark-index = count_below-le c.loop-mark.mark-index (helps c.args.marks.now) in
    let within : c.loop-mark.mark-index < length c.args.marks.now = omega (arith, c.loop-mark-test.true) in
    omega (arith, c.loop-mark.invariant, most, within, c.requires)
