use Rattle.std.proofs.Common.{◌≡◌, take}
use Rattle.store_map.specs.declared.call_name.CallName.{CallName}
use Rattle.hist_rules.specs.Calls.{is_named}
use Rattle.hist_tables.specs.Tables.{has}
use Rattle.hist_tables.proofs.call_set.CallSet.from_calls.Given as goal

abbrev pub invariant-loop-call : goal.invariant-loop-call
invariant-loop-call l = (other : CallName) → has l.set other ≡ is_named other (take l.call-index l.calls)
