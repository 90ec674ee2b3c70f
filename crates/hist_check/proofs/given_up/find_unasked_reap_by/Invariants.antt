use Rattle.std.proofs.Common.{◌≡◌, take, drop}
use Rattle.std.specs.Prelude.{reverse, unwrap_or, count_by}
use Rattle.store_map.specs.declared.call_name.CallName.{CallName}
use Rattle.store_map.specs.declared.script.Script.{Script}
use Rattle.hist_rules.specs.Calls.{same_actor}
use Rattle.hist_rules.specs.Counts.{reaps}
use Rattle.hist_rules.specs.First.{first_fault_after, first_fault_along}
use Rattle.hist_rules.specs.GivenUp.{is_reaped}
use Rattle.hist_tables.specs.OperatorCounts.{reaps_in}
use Rattle.hist_tables.specs.Tables.{value_at}
use Rattle.hist_check.proofs.given_up.find_unasked_reap_by.Given as goal

abbrev pub invariant-loop-call : goal.invariant-loop-call
invariant-loop-call l = record {
  so_far :
      (script : Script) → ((call : CallName) → reaps_in l.asked call ≡ reaps script call)
      → first_fault_after (is_reaped script) (reverse (take l.call-index l.calls)) (drop l.call-index l.calls) ≡ first_fault_along (is_reaped script) l.calls;
  counts : (call : CallName) → unwrap_or (value_at l.counts call) 0 ≡ count_by (same_actor call) (reverse (take l.call-index l.calls));
}
