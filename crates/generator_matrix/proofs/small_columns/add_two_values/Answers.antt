use Rattle.std.proofs.Common.{arith, ◌<◌, length, get_or, bit_xor}
use Rattle.clay_kernels.proofs.ProgressLemmas.{IsDone-one}
use Rattle.generator_matrix.proofs.small_columns.add_two_values.Goals as goal

pub loop-at-preserved : goal.loop-at-preserved
loop-at-preserved c =
    let i = c.loop-at.invariant in
    let at = c.loop-at.at in
    let n = length c.args.u0.now in
    let room : at < n = c.loop-at-test.true in
    let old0 = i.a0.left at (omega arith) in
    let old1 = i.a1.left at (omega arith) in
    record {
      a0 = IsDone-one 0 at n c.args.d0.now c.loop-at.d0 _ _ room i.a0 (λ k. bit_xor (bit_xor (old0 k) (get_or c.args.u0.now at 0)) (c.times-shared.ensures k));
      a1 = IsDone-one 0 at n c.args.d1.now c.loop-at.d1 _ _ room i.a1 (λ k. bit_xor (bit_xor (old1 k) (get_or c.args.u1.now at 0)) (c.times-shared.ensures k));
    }
