use Rattle.clay_kernels.proofs.ProgressLemmas.{IsAdded-one}
use Rattle.clay_kernels.proofs.kernels.add_one.Goals as goal

pub loop-at-preserved : goal.loop-at-preserved
loop-at-preserved c =
    let i = c.loop-at.invariant in
    IsAdded-one 0 c.loop-at.at c.args.dst.now c.loop-at.dst c.args.p.now c.args.src.now c.times.result i c.loop-at-test.true c.times.ensures
