use Rattle.std.proofs.Common.{ℕ, arith, ◌<◌, length, get_or, bit_xor}
use Rattle.clay_kernels.proofs.ProgressLemmas.{IsDone-one}
use Rattle.generator_matrix.proofs.column.end_rows.Goals as goal

pub loop-at-preserved : goal.loop-at-preserved
loop-at-preserved c =
    let i = c.loop-at.invariant in
    let at = c.loop-at.at in
    let n = length c.args.d3.now in
    let v3 : ℕ = get_or c.args.d3.now at 0 in
    let room : at < n = c.loop-at-test.true in
    let old0 = i.a0.left at (omega arith) in
    let old1 = i.a1.left at (omega arith) in
    let old2 = i.a2.left at (omega arith) in
    record {
      a0 = IsDone-one 0 at n c.args.d0.now c.loop-at.d0 _ _ room i.a0 (λ k. bit_xor (bit_xor (old0 k) (bit_xor (old1 k) v3)) (old2 k));
      a1 = IsDone-one 0 at n c.args.d1.now c.loop-at.d1 _ _ room i.a1 (λ k. bit_xor (old1 k) v3);
      a2 = IsDone-one 0 at n c.args.d2.now c.loop-at.d2 _ _ room i.a2 (λ k. bit_xor (old2 k) v3);
    }
