-- How far each actor's calls are known to be answered.
use Rattle.std.specs.Prelude.{◌≡◌, true, List, IfSome}
use Rattle.store_map.specs.declared.call_name.CallName.{CallName}
use Rattle.hist_rules.specs.Calls.{is_named, with_number}
use Rattle.hist_rules.specs.CallsInOrder.{all_below}
use Rattle.hist_tables.specs.declared.actor_table.ActorTable.{ActorTable}
use Rattle.hist_tables.specs.Tables.{value_at}

-- all calls of an actor below its number are among the calls
abbrev pub AreReached : List CallName → ActorTable → Type 0
AreReached calls table = (call : CallName) → IfSome (value_at table call) (λ bound. all_below (λ number. is_named (with_number call number) calls) bound ≡ true)
