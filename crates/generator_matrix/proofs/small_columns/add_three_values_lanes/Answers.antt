use Rattle.std.proofs.Common.{arith, ◌+◌, ◌≤◌, length, bit_xor}
use Rattle.clay_kernels.proofs.ProgressLemmas.{HasLanes-op, HasLanes-product, HasLanes-chunk, HasLanes-left, IsDone-block}
use Rattle.generator_matrix.proofs.small_columns.add_three_values_lanes.Goals as goal

pub loop-at-preserved : goal.loop-at-preserved
loop-at-preserved c =
    let i = c.loop-at.invariant in
    let l1 = c.requires.l1 in
    let l2 = c.requires.l2 in
    let at = c.loop-at.at in
    let n = length c.args.near.now in
    let room : at + 16 ≤ n = omega (arith, c.loop-at-test.true) in
    let v0 = HasLanes-chunk 16 at c.args.near.now room in
    let v1 = HasLanes-chunk 16 at c.args.middle.now (omega arith) in
    let v2 = HasLanes-chunk 16 at c.args.far.now (omega arith) in
    let both = HasLanes-op 16 bit_xor v0 v1 in
    let s1 = HasLanes-product 16 c.args.sigma.now c.times_lanes-s1.ensures both in
    let t1 = HasLanes-product 16 c.args.tau.now c.times_lanes-t1.ensures v2 in
    let k2 = HasLanes-product 16 c.args.kappa.now c.times_lanes-k2.ensures both in
    let r2 = HasLanes-product 16 c.args.rho.now c.times_lanes-r2.ensures v2 in
    let of_middle = HasLanes-op 16 bit_xor (HasLanes-op 16 bit_xor v1 s1) t1 in
    let of_last = HasLanes-op 16 bit_xor k2 r2 in
    let o0 = HasLanes-left 16 c.args.start at n _ _ _ room i.a0 in
    let o1 = HasLanes-left 16 c.args.start at n _ _ _ room i.a1 in
    let o2 = HasLanes-left 16 c.args.start at n _ _ _ room i.a2 in
    record {
      a0 = IsDone-block 16 c.args.start at n _ _ _ _ room i.a0 (HasLanes-op 16 bit_xor (HasLanes-op 16 bit_xor (HasLanes-op 16 bit_xor (HasLanes-op 16 bit_xor o0 both) v2) of_middle) of_last);
      a1 = IsDone-block 16 c.args.start at n _ _ _ _ room i.a1 (HasLanes-op 16 bit_xor o1 of_middle);
      a2 = IsDone-block 16 c.args.start at n _ _ _ _ room i.a2 (HasLanes-op 16 bit_xor o2 of_last);
    }
