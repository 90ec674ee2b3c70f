use Rattle.std.proofs.Common.{◌≡◌, drop}
use Rattle.hist_rules.specs.First.{first_fault}
use Rattle.hist_rules.specs.TakesAddUp.{server_adds_up}
use Rattle.hist_check.proofs.sums.find_wrong_sum.Given as goal

abbrev pub invariant-loop-line : goal.invariant-loop-line
invariant-loop-line l =
    first_fault (server_adds_up l.script l.transcript) (drop l.line-index l.lines) ≡ first_fault (server_adds_up l.script l.transcript) l.lines
