use Rattle.clay_aloof.specs.Partners.{HoldsDigits}
use Rattle.clay_aloof.proofs.partner_tables.digits_of.Given as goal

abbrev pub invariant-loop-z : goal.invariant-loop-z
invariant-loop-z l = HoldsDigits l.fn.g l.fn.column l.z l.digits.items
