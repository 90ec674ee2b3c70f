use Rattle.std.proofs.Common.{◌+◌, ◌≤◌, length, arith}
use Rattle.clay_kernels.proofs.ProgressLemmas.{HasLanes-product, HasLanes-left, IsDone-block}
use Rattle.clay_kernels.proofs.slice_coupling.scale_lanes.Goals as goal

pub loop-bytes-preserved : goal.loop-bytes-preserved
loop-bytes-preserved c =
    let i = c.loop-bytes.invariant in
    let long = i.long in
    let at = c.loop-bytes.at in
    let n = length c.args.bytes.now in
    let room : at + 16 ≤ n = omega (arith, c.loop-bytes-test.true) in
    IsDone-block 16 c.args.start at n _ _ _ _ room i (HasLanes-product 16 c.args.p.now c.times_lanes-scaled.ensures (HasLanes-left 16 c.args.start at n _ _ _ room i))
