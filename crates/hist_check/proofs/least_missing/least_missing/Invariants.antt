use Rattle.std.proofs.Common.{◌≡◌, ℕ, ◌<◌, true}
use Rattle.hist_rules.specs.Calls.{with_number}
use Rattle.hist_tables.specs.Tables.{has}
use Rattle.hist_check.proofs.least_missing.least_missing.Given as goal

abbrev pub invariant-loop-number : goal.invariant-loop-number
invariant-loop-number l = (k : ℕ) → k < l.number → has l.set (with_number l.call k) ≡ true
