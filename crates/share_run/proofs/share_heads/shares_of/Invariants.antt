use Rattle.std.proofs.Common.{◌≡◌}
use Rattle.clay_grid.specs.Score.{count_below}
use Rattle.share_run.specs.Heads.{head_of, is_of}
use Rattle.share_run.proofs.share_heads.shares_of.Given as goal

abbrev pub invariant-loop-share : goal.invariant-loop-share
invariant-loop-share l = l.count ≡ count_below l.share (λ c. is_of l.cut c (head_of l.heads c))
