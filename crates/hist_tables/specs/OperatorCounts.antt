-- What the operator does, and to whom.
use Rattle.std.specs.Prelude.{◌≡◌, ℕ, Bool, nat_eq, List, count_by, unwrap_or}
use Rattle.std.specs.HashMap.{get}
use Rattle.store_map.specs.declared.actor.Token.{Token}
use Rattle.store_map.specs.declared.call_name.CallName.{CallName}
use Rattle.store_map.specs.declared.call_name.CallName.TheVariants.{Client, Repairer}
use Rattle.hist_rules.specs.Counts.{is_wipe_of, is_down_of, is_reap_of_client, is_reap_of_repairer}
use Rattle.hist_tables.specs.declared.operator_counts.OperatorAction.{OperatorAction}
use Rattle.hist_tables.specs.declared.operator_counts.OperatorAction.TheVariants.{Wipe, Down, ReapClient, ReapRepairer}
use Rattle.hist_tables.specs.declared.operator_counts.OperatorCounts.{OperatorCounts}
use Rattle.hist_tables.specs.declared.reaps.Reaps.{Reaps}

-- whether a line of the schedule does the action to this server or actor
abbrev pub is_done_to : OperatorAction → ℕ → Token → Bool
is_done_to Wipe place token = is_wipe_of place token
is_done_to Down place token = is_down_of place token
is_done_to ReapClient place token = is_reap_of_client place token
is_done_to ReapRepairer place token = is_reap_of_repairer place token

-- the count that is kept for one
abbrev pub count_in : OperatorCounts → ℕ → ℕ
count_in counted place = unwrap_or (get nat_eq counted.counts place) 0

-- each has the count of the lines that do the action to it
abbrev pub AreCounted : OperatorAction → List Token → OperatorCounts → Type 0
AreCounted action schedule counted = (place : ℕ) → count_in counted place ≡ count_by (is_done_to action place) schedule

-- the count that is kept for the call's actor
abbrev pub reaps_in : Reaps → CallName → ℕ
reaps_in made (Client call) = count_in made.clients call.client
reaps_in made (Repairer call) = count_in made.repairers call.repairer
