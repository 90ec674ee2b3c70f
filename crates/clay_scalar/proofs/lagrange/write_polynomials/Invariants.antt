use Rattle.clay_scalar.proofs.Parts.{HasRows}
use Rattle.clay_scalar.proofs.lagrange.write_polynomials.Given as goal

abbrev pub invariant-loop-own : goal.invariant-loop-own
invariant-loop-own l = HasRows l.points l.own l.coefficients
