use Rattle.std.proofs.Common.{arith, ◌+◌, ◌≤◌, length, bit_xor}
use Rattle.clay_kernels.proofs.ProgressLemmas.{HasLanes-op, HasLanes-product, HasLanes-chunk, HasLanes-left, IsDone-block}
use Rattle.generator_matrix.proofs.column.add_values_wide.Goals as goal

pub loop-at-preserved : goal.loop-at-preserved
loop-at-preserved c =
    let i = c.loop-at.invariant in
    let l1 = c.requires.l1 in
    let l2 = c.requires.l2 in
    let l3 = c.requires.l3 in
    let f = c.args.f.now in
    let at = c.loop-at.at in
    let n = length c.args.u0.now in
    let room : at + 32 ≤ n = omega (arith, c.loop-at-test.true) in
    let v0 = HasLanes-chunk 32 at c.args.u0.now room in
    let v1 = HasLanes-chunk 32 at c.args.u1.now (omega arith) in
    let v2 = HasLanes-chunk 32 at c.args.u2.now (omega arith) in
    let v3 = HasLanes-chunk 32 at c.args.u3.now (omega arith) in
    let a = HasLanes-op 32 bit_xor v1 v3 in
    let b = HasLanes-op 32 bit_xor v2 v3 in
    let s = HasLanes-op 32 bit_xor (HasLanes-op 32 bit_xor v0 v2) a in
    let s1 = HasLanes-product 32 f.sigma c.times_wide-s1.ensures s in
    let s2 = HasLanes-product 32 f.tau c.times_wide-s2.ensures s in
    let s3 = HasLanes-product 32 f.kappa c.times_wide-s3.ensures s in
    let a3 = HasLanes-product 32 f.tau c.times_wide-a3.ensures a in
    let b3 = HasLanes-product 32 f.rho c.times_wide-b3.ensures b in
    let o0 = HasLanes-left 32 0 at n _ _ _ room i.a0 in
    let o1 = HasLanes-left 32 0 at n _ _ _ room i.a1 in
    let o2 = HasLanes-left 32 0 at n _ _ _ room i.a2 in
    let o3 = HasLanes-left 32 0 at n _ _ _ room i.a3 in
    record {
      a0 = IsDone-block 32 0 at n _ _ _ _ room i.a0 (HasLanes-op 32 bit_xor o0 s);
      a1 = IsDone-block 32 0 at n _ _ _ _ room i.a1 (HasLanes-op 32 bit_xor (HasLanes-op 32 bit_xor o1 a) s1);
      a2 = IsDone-block 32 0 at n _ _ _ _ room i.a2 (HasLanes-op 32 bit_xor (HasLanes-op 32 bit_xor o2 b) s2);
      a3 = IsDone-block 32 0 at n _ _ _ _ room i.a3 (HasLanes-op 32 bit_xor (HasLanes-op 32 bit_xor (HasLanes-op 32 bit_xor (HasLanes-op 32 bit_xor o3 v3) s3) a3) b3);
    }
