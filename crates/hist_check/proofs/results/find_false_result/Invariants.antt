use Rattle.std.proofs.Common.{◌≡◌, drop}
use Rattle.std.specs.Prelude.{option_and_then}
use Rattle.store_map.specs.declared.call_name.CallName.TheVariants.{Repairer}
use Rattle.hist_rules.specs.Calls.{rebuild_of}
use Rattle.hist_rules.specs.First.{first_fault}
use Rattle.hist_rules.specs.CausesNamed.{result_named}
use Rattle.hist_check.proofs.results.find_false_result.Given as goal

abbrev pub invariant-loop-line : goal.invariant-loop-line
invariant-loop-line l =
    first_fault (λ line. option_and_then (result_named l.script l.transcript (Repairer line.call) line.result) (rebuild_of l.script line.call)) (drop l.line-index l.lines)
    ≡ first_fault (λ line. option_and_then (result_named l.script l.transcript (Repairer line.call) line.result) (rebuild_of l.script line.call)) l.lines
