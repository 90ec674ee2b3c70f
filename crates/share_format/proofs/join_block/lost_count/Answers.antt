use Rattle.std.proofs.Common.{◌<◌, ◌≤◌, length, arith}
use Rattle.clay_grid.specs.Score.{count_below}
use Rattle.clay_grid.proofs.Counting.{count_below-le}
use Rattle.share_format.specs.Joined.{is_lost}
use Rattle.share_format.proofs.join_block.lost_count.Goals as goal

pub overflow_add-count : goal.overflow_add-count
overflow_add-count c =
    let most : count_below c.loop-block.block-index (is_lost c.args.blocks.now) ≤ c.loop-block.block-index = count_below-le c.loop-block.block-index (is_lost c.args.blocks.now) in
    let within : c.loop-block.block-index < length c.args.blocks.now = omega (arith, c.loop-block-test.true) in
    omega (arith, c.loop-block.invariant, most, within, c.requires)
