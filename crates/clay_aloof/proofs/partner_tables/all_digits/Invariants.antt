use Rattle.clay_aloof.specs.Partners.{HoldsColumns}
use Rattle.clay_aloof.proofs.partner_tables.all_digits.Given as goal

abbrev pub invariant-loop-column : goal.invariant-loop-column
invariant-loop-column l = HoldsColumns l.g l.column l.columns.items
