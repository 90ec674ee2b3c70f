use Rattle.std.proofs.Common.{◌≡◌, ℕ, ◌<◌, ◌≤◌, true}
use Rattle.hist_rules.specs.Calls.{with_number}
use Rattle.hist_tables.specs.Tables.{has}
use Rattle.hist_check.proofs.order.has_between.Given as goal

abbrev pub invariant-loop-number : goal.invariant-loop-number
invariant-loop-number l = (k : ℕ) → l.from ≤ k → k < l.number → has l.set (with_number l.call k) ≡ true
