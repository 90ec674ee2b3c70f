use Rattle.std.proofs.Common.{◌≡◌, map, drop}
use Rattle.std.specs.Prelude.{◌||◌}
use Rattle.store_map.specs.declared.call_name.CallName.{CallName}
use Rattle.hist_rules.specs.Calls.{is_named}
use Rattle.hist_tables.specs.Tables.{has}
use Rattle.hist_tables.proofs.call_set.CallSet.insert_calls.Given as goal

abbrev pub invariant-loop-line : goal.invariant-loop-line
invariant-loop-line g l =
    (other : CallName) → (has l.self other || is_named other (map g.L.NamesCall.call (drop l.line-index l.lines))) ≡ (has l.initial.self other || is_named other (map g.L.NamesCall.call l.lines))
