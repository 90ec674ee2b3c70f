use Rattle.std.proofs.Common.{◌≡◌, ◌++◌, take, map, filter}
use Rattle.store_map.specs.declared.call_name.CallName.TheVariants.{Repairer}
use Rattle.hist_rules.specs.GivenUp.{is_reaped_result}
use Rattle.hist_check.proofs.given_up.push_reaped_repairers.Given as goal

abbrev pub invariant-loop-line : goal.invariant-loop-line
invariant-loop-line l = l.calls.items ≡ l.initial.calls.items ++ map (λ line. Repairer line.call) (filter (λ line. is_reaped_result line.result) (take l.line-index l.lines))
