use Rattle.clay_kernels.proofs.ProgressLemmas.{IsAdded-one}
use Rattle.clay_kernels.proofs.kernels.add_two.Goals as goal

pub loop-at-preserved : goal.loop-at-preserved
loop-at-preserved c =
    let i = c.loop-at.invariant in
    record {
      a0 = IsAdded-one 0 c.loop-at.at c.args.d0.now c.loop-at.d0 c.args.p0.now c.args.src.now c.times.result i.a0 c.loop-at-test.true c.times.ensures;
      a1 = IsAdded-one 0 c.loop-at.at c.args.d1.now c.loop-at.d1 c.args.p1.now c.args.src.now c.times-in-loop-at.result i.a1 c.loop-at-test.true c.times-in-loop-at.ensures;
    }
