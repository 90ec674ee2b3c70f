use Rattle.clay_scalar.proofs.Products.{HasFactors}
use Rattle.clay_scalar.proofs.lagrange.write_polynomial.Given as goal

abbrev pub invariant-loop-i : goal.invariant-loop-i
invariant-loop-i l = HasFactors l.points l.own l.i l.polynomial
