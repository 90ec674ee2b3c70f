use Rattle.std.proofs.Common.{arith, ◌+◌, ◌≤◌, length}
use Rattle.clay_kernels.proofs.ProgressLemmas.{IsAdded-block}
use Rattle.clay_kernels.proofs.kernels.add_one_lanes.Goals as goal

pub loop-at-preserved : goal.loop-at-preserved
loop-at-preserved c =
    let i = c.loop-at.invariant in
    let at = c.loop-at.at in
    let src = c.args.src.now in
    let room : at + 16 ≤ length src = omega (arith, c.loop-at-test.true) in
    IsAdded-block 16 c.args.start at c.args.dst.now c.loop-at.dst c.args.p.now src c.times_lanes-scaled.result room i c.times_lanes-scaled.ensures
