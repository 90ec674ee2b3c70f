use Rattle.std.proofs.Common.{arith}
use Rattle.clay_scalar.proofs.Parts.{HasRows-more}
use Rattle.clay_scalar.proofs.lagrange.write_polynomials.Goals as goal

pub loop-own-preserved : goal.loop-own-preserved
loop-own-preserved c =
    HasRows-more c.args.points.now c.loop-own.own c.loop-own.coefficients c.write_polynomial.new.polynomial (omega arith) (omega arith) (omega arith) c.write_polynomial.ensures c.loop-own.invariant
