use Rattle.std.proofs.Common.{◌≡◌}
use Rattle.clay_grid.specs.Score.{count_below}
use Rattle.share_run.specs.Check.{is_whole}
use Rattle.share_run.proofs.checks_of_shares.whole_count.Given as goal

abbrev pub invariant-loop-verdict : goal.invariant-loop-verdict
invariant-loop-verdict l = l.count ≡ count_below l.verdict-index (is_whole l.verdicts)
