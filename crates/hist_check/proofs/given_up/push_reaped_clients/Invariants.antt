use Rattle.std.proofs.Common.{◌≡◌, ◌++◌, take, map, filter}
use Rattle.store_map.specs.declared.call_name.CallName.TheVariants.{Client}
use Rattle.hist_rules.specs.GivenUp.{is_reaped_cause}
use Rattle.hist_check.proofs.given_up.push_reaped_clients.Given as goal

abbrev pub invariant-loop-line : goal.invariant-loop-line
invariant-loop-line l = l.calls.items ≡ l.initial.calls.items ++ map (λ line. Client line.call) (filter (λ line. is_reaped_cause line.cause) (take l.line-index l.lines))
