use Rattle.std.proofs.Common.{arith, ◌+◌, ◌≤◌, length}
use Rattle.clay_kernels.proofs.ProgressLemmas.{IsAdded-block}
use Rattle.clay_kernels.proofs.kernels.add_one_wide.Goals as goal

pub loop-at-preserved : goal.loop-at-preserved
loop-at-preserved c =
    let i = c.loop-at.invariant in
    let at = c.loop-at.at in
    let src = c.args.src.now in
    let room : at + 32 ≤ length src = omega (arith, c.loop-at-test.true) in
    IsAdded-block 32 0 at c.args.dst.now c.loop-at.dst c.args.p.now src c.times_wide-scaled.result room i c.times_wide-scaled.ensures
