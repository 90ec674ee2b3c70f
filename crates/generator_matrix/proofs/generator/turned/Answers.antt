use Rattle.std.proofs.Common.{arith}
use Rattle.generator_matrix.proofs.GeneratorLaws.{turned_below}
use Rattle.generator_matrix.proofs.generator.turned.Goals as goal

pub bounds-values-p : goal.bounds-values-p
bounds-values-p c = omega (arith, turned_below c.args.m c.args.n c.args.width c.loop-p.p c.requires.within c.loop-p-test.true)
