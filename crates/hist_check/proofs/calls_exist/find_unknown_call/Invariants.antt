use Rattle.std.proofs.Common.{◌≡◌, drop}
use Rattle.hist_rules.specs.First.{first_fault}
use Rattle.hist_rules.specs.CallsExist.{call_exists}
use Rattle.hist_check.proofs.calls_exist.find_unknown_call.Given as goal

abbrev pub invariant-loop-line : goal.invariant-loop-line
invariant-loop-line g l =
    first_fault (λ line. call_exists l.script (g.L.NamesCall.call line)) (drop l.line-index l.lines) ≡ first_fault (λ line. call_exists l.script (g.L.NamesCall.call line)) l.lines
