use Rattle.std.proofs.Common.{◌≡◌}
use Rattle.clay_grid.specs.Score.{count_below}
use Rattle.share_format.specs.Joined.{is_lost}
use Rattle.share_format.proofs.join_block.lost_count.Given as goal

abbrev pub invariant-loop-block : goal.invariant-loop-block
invariant-loop-block l = l.count ≡ count_below l.block-index (is_lost l.blocks)
