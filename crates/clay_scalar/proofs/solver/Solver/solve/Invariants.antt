use Rattle.clay_scalar.proofs.Parts.{HasCombined}
use Rattle.clay_scalar.proofs.solver.Solver.solve.Given as goal

abbrev pub invariant-loop-e : goal.invariant-loop-e
invariant-loop-e l = HasCombined l.self l.coefficients l.syndromes l.w l.e l.out
