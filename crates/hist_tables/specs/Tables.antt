-- What tables hold for a call or for its actor.
use Rattle.std.specs.Prelude.{◌≡◌, ℕ, Bool, nat_eq, List, Option}
use Rattle.std.specs.HashMap.{get}
use Rattle.store_map.specs.declared.call_name.CallName.{CallName}
use Rattle.store_map.specs.declared.call_name.CallName.TheVariants.{Client, Repairer}
use Rattle.hist_rules.specs.Calls.{is_named}
use Rattle.hist_tables.specs.Numbers.{holds}
use Rattle.hist_tables.specs.declared.actor_table.ActorTable.{ActorTable}
use Rattle.hist_tables.specs.declared.call_set.CallSet.{CallSet}

-- the number of the call's actor
abbrev pub value_at : ActorTable → CallName → Option ℕ
value_at table (Client call) = get nat_eq table.clients call.client
value_at table (Repairer call) = get nat_eq table.repairers call.repairer

-- whether the set has the call
abbrev pub has : CallSet → CallName → Bool
has set (Client call) = holds set.clients call.client call.number
has set (Repairer call) = holds set.repairers call.repairer call.number

-- the set has just these calls
abbrev pub IsSetOf : CallSet → List CallName → Type 0
IsSetOf set calls = (call : CallName) → has set call ≡ is_named call calls
