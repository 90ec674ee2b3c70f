-- How a call is named.
use Rattle.std.specs.Prelude.{ℕ, List, ◌++◌, codes, decimal}
use Rattle.store_map.specs.declared.call_name.ClientCall.{ClientCall}
use Rattle.store_map.specs.declared.call_name.RepairCall.{RepairCall}
use Rattle.store_map.specs.declared.call_name.CallName.{CallName}
use Rattle.store_map.specs.declared.call_name.CallName.TheVariants.{Client, Repairer}

-- cI.N
abbrev pub client_text : ClientCall → List ℕ
client_text call = codes "c" ++ decimal call.client ++ codes "." ++ decimal call.number

-- rI.N
abbrev pub repair_text : RepairCall → List ℕ
repair_text call = codes "r" ++ decimal call.repairer ++ codes "." ++ decimal call.number

-- either
abbrev pub call_text : CallName → List ℕ
call_text (Client call) = client_text call
call_text (Repairer call) = repair_text call
