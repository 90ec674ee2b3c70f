use Rattle.std.proofs.Common.{◌≡◌, take, drop}
use Rattle.std.specs.Prelude.{reverse, find}
use Rattle.std.specs.Option.{option_or, option_map}
use Rattle.store_map.specs.declared.call_name.CallName.{CallName}
use Rattle.hist_rules.specs.Calls.{number_of, same_actor}
use Rattle.hist_rules.specs.Named.{answered_calls}
use Rattle.hist_rules.specs.First.{first_fault_after, first_fault_along}
use Rattle.hist_rules.specs.OneOpenCall.{is_only_one, is_next_call}
use Rattle.hist_tables.specs.Tables.{value_at}
use Rattle.hist_check.specs.Reached.{AreReached}
use Rattle.hist_check.proofs.open_calls.find_early_by.Given as goal

abbrev pub invariant-loop-call : goal.invariant-loop-call
invariant-loop-call l = record {
  so_far :
      first_fault_after (λ before call. option_or (is_only_one (find (same_actor call) before) call) (is_next_call (answered_calls l.transcript) call)) (reverse (take l.call-index l.calls)) (drop l.call-index l.calls)
      ≡ first_fault_along (λ before call. option_or (is_only_one (find (same_actor call) before) call) (is_next_call (answered_calls l.transcript) call)) l.calls;
  reached : AreReached (answered_calls l.transcript) l.reached;
  firsts : (call : CallName) → value_at l.firsts call ≡ option_map number_of (find (same_actor call) (reverse (take l.call-index l.calls)));
}
