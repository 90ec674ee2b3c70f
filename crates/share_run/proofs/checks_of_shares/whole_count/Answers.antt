use Rattle.std.proofs.Common.{◌<◌, ◌≤◌, length, arith}
use Rattle.clay_grid.specs.Score.{count_below}
use Rattle.clay_grid.proofs.Counting.{count_below-le}
use Rattle.share_run.specs.Check.{is_whole}
use Rattle.share_run.proofs.checks_of_shares.whole_count.Goals as goal

pub overflow_add-count : goal.overflow_add-count
overflow_add-count c =
    let most : count_below c.loop-verdict.verdict-index (is_whole c.args.verdicts.now) ≤ c.loop-verdict.verdict-index = count_below-le c.loop-verdict.verdict-index (is_whole c.args.verdicts.now) in
    let within : c.loop-verdict.verdict-index < length c.args.verdicts.now = omega (arith, c.loop-verdict-test.true) in
    omega (arith, c.loop-verdict.invariant, most, within, c.requires)
