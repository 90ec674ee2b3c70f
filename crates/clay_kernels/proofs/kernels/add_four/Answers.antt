use Rattle.clay_kernels.proofs.ProgressLemmas.{IsAdded-one}
use Rattle.clay_kernels.proofs.kernels.add_four.Goals as goal

pub loop-at-preserved : goal.loop-at-preserved
loop-at-preserved c =
    let i = c.loop-at.invariant in
    record {
      a0 = IsAdded-one 0 c.loop-at.at c.args.d0.now c.loop-at.d0 c.args.p0.now c.args.src.now c.times.result i.a0 c.loop-at-test.true c.times.ensures;
      a1 = IsAdded-one 0 c.loop-at.at c.args.d1.now c.loop-at.d1 c.args.p1.now c.args.src.now c.times-in-loop-at.result i.a1 c.loop-at-test.true c.times-in-loop-at.ensures;
      a2 = IsAdded-one 0 c.loop-at.at c.args.d2.now c.loop-at.d2 c.args.p2.now c.args.src.now c.times-in-loop-at-2.result i.a2 c.loop-at-test.true c.times-in-loop-at-2.ensures;
      a3 = IsAdded-one 0 c.loop-at.at c.args.d3.now c.loop-at.d3 c.args.p3.now c.args.src.now c.times-in-loop-at-3.result i.a3 c.loop-at-test.true c.times-in-loop-at-3.ensures;
    }
