use Rattle.std.proofs.Common.{arith, ◌+◌, ◌≤◌, length, bit_xor}
use Rattle.clay_kernels.proofs.ProgressLemmas.{HasLanes-op, HasLanes-product, HasLanes-chunk, HasLanes-left, IsDone-block}
use Rattle.generator_matrix.proofs.small_columns.add_two_values_wide.Goals as goal

pub loop-at-preserved : goal.loop-at-preserved
loop-at-preserved c =
    let i = c.loop-at.invariant in
    let l1 = c.requires.l1 in
    let at = c.loop-at.at in
    let n = length c.args.u0.now in
    let room : at + 32 ≤ n = omega (arith, c.loop-at-test.true) in
    let v0 = HasLanes-chunk 32 at c.args.u0.now room in
    let v1 = HasLanes-chunk 32 at c.args.u1.now (omega arith) in
    let shared = HasLanes-product 32 c.args.p.now c.times_wide-shared.ensures (HasLanes-op 32 bit_xor v0 v1) in
    let o0 = HasLanes-left 32 0 at n _ _ _ room i.a0 in
    let o1 = HasLanes-left 32 0 at n _ _ _ room i.a1 in
    record {
      a0 = IsDone-block 32 0 at n _ _ _ _ room i.a0 (HasLanes-op 32 bit_xor (HasLanes-op 32 bit_xor o0 v0) shared);
      a1 = IsDone-block 32 0 at n _ _ _ _ room i.a1 (HasLanes-op 32 bit_xor (HasLanes-op 32 bit_xor o1 v1) shared);
    }
