-- What a search for an answer out of order shows of some calls, before the rest.
use Rattle.std.specs.Prelude.{◌≡◌, List, ◌++◌, Option, None, Some}
use Rattle.std.specs.Option.{option_or}
use Rattle.store_map.specs.declared.call_name.CallName.{CallName}
use Rattle.hist_rules.specs.First.{first_fault_after}
use Rattle.hist_rules.specs.CallsInOrder.{follows_answered, is_first_answer}
use Rattle.hist_rules.specs.declared.verdict.Verdict.{Verdict}
use Rattle.hist_tables.specs.Tables.{IsSetOf}
use Rattle.hist_tables.specs.declared.call_set.CallSet.{CallSet}

-- an answer, after the ones before it
abbrev pub answer_fault : List CallName → List CallName → CallName → Option Verdict
answer_fault answered before call = option_or (follows_answered answered call) (is_first_answer before call)

-- the fault is the first one, or none of these calls has one, and the set has them and the earlier ones
abbrev pub IsSearched : List CallName → List CallName → List CallName → List CallName → Option Verdict → CallSet → Type 0
IsSearched answered earlier calls rest (Some fault) set = first_fault_after (answer_fault answered) earlier (calls ++ rest) ≡ Some fault
IsSearched answered earlier calls rest None set =
    (later : List CallName) × IsSetOf set later × (first_fault_after (answer_fault answered) earlier (calls ++ rest) ≡ first_fault_after (answer_fault answered) later rest)
