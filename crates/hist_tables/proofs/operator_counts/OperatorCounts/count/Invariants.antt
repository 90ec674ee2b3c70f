use Rattle.std.proofs.Common.{◌≡◌, ℕ, take}
use Rattle.std.specs.Prelude.{nat_eq, unwrap_or, count_by}
use Rattle.std.specs.HashMap.{get}
use Rattle.hist_tables.specs.OperatorCounts.{is_done_to}
use Rattle.hist_tables.proofs.operator_counts.OperatorCounts.count.Given as goal

abbrev pub invariant-loop-token : goal.invariant-loop-token
invariant-loop-token l = (place : ℕ) → unwrap_or (get nat_eq l.counts place) 0 ≡ count_by (is_done_to l.action place) (take l.token-index l.schedule)
