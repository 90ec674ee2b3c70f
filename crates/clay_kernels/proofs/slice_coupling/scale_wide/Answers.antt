use Rattle.std.proofs.Common.{◌+◌, ◌≤◌, length, arith}
use Rattle.clay_kernels.proofs.ProgressLemmas.{HasLanes-product, HasLanes-left, IsDone-block}
use Rattle.clay_kernels.proofs.slice_coupling.scale_wide.Goals as goal

pub loop-bytes-preserved : goal.loop-bytes-preserved
loop-bytes-preserved c =
    let i = c.loop-bytes.invariant in
    let long = i.long in
    let at = c.loop-bytes.at in
    let n = length c.args.bytes.now in
    let room : at + 32 ≤ n = omega (arith, c.loop-bytes-test.true) in
    IsDone-block 32 0 at n _ _ _ _ room i (HasLanes-product 32 c.args.p.now c.times_wide-scaled.ensures (HasLanes-left 32 0 at n _ _ _ room i))
