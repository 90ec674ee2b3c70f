use Rattle.std.proofs.Common.{arith, ◌+◌, ◌≤◌, length}
use Rattle.clay_kernels.proofs.ProgressLemmas.{IsAdded-block}
use Rattle.clay_kernels.proofs.kernels.add_four_wide.Goals as goal

pub loop-at-preserved : goal.loop-at-preserved
loop-at-preserved c =
    let i = c.loop-at.invariant in
    let at = c.loop-at.at in
    let src = c.args.src.now in
    let room : at + 32 ≤ length src = omega (arith, c.loop-at-test.true) in
    record {
      a0 = IsAdded-block 32 0 at c.args.d0.now c.loop-at.d0 c.args.p0.now src c.times_wide-s0.result room i.a0 c.times_wide-s0.ensures;
      a1 = IsAdded-block 32 0 at c.args.d1.now c.loop-at.d1 c.args.p1.now src c.times_wide-s1.result room i.a1 c.times_wide-s1.ensures;
      a2 = IsAdded-block 32 0 at c.args.d2.now c.loop-at.d2 c.args.p2.now src c.times_wide-s2.result room i.a2 c.times_wide-s2.ensures;
      a3 = IsAdded-block 32 0 at c.args.d3.now c.loop-at.d3 c.args.p3.now src c.times_wide-s3.result room i.a3 c.times_wide-s3.ensures;
    }
