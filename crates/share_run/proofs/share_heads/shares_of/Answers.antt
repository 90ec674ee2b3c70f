use Rattle.std.proofs.Common.{◌≤◌, ℕ, Bool, arith}
use Rattle.clay_grid.specs.Score.{count_below}
use Rattle.clay_grid.proofs.Counting.{count_below-le}
use Rattle.share_run.specs.Heads.{head_of, is_of}
use Rattle.share_run.proofs.share_heads.shares_of.Goals as goal

pub overflow_add-count : goal.overflow_add-count
overflow_add-count c =
    let own : ℕ → Bool = λ i. is_of c.args.cut.now i (head_of c.args.heads.now i) in
    let most : count_below c.loop-share.share own ≤ c.loop-share.share = count_below-le c.loop-share.share own in
    omega (arith, c.loop-share.invariant, most)
