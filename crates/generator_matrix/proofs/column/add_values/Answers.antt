use Rattle.std.proofs.Common.{ℕ, arith, ◌<◌, length, get_or, bit_xor}
use Rattle.generator_matrix.specs.Columns.{both_of, all_of}
use Rattle.clay_kernels.proofs.ProgressLemmas.{IsDone-one}
use Rattle.generator_matrix.proofs.column.add_values.Goals as goal

pub loop-at-preserved : goal.loop-at-preserved
loop-at-preserved c =
    let i = c.loop-at.invariant in
    let f = c.args.f.now in
    let at = c.loop-at.at in
    let n = length c.args.u0.now in
    let u1 = c.args.u1.now in
    let u2 = c.args.u2.now in
    let u3 = c.args.u3.now in
    let s : ℕ = all_of c.args.u0.now u1 u2 u3 at in
    let a : ℕ = both_of u1 u3 at in
    let b : ℕ = both_of u2 u3 at in
    let room : at < n = c.loop-at-test.true in
    let old0 = i.a0.left at (omega arith) in
    let old1 = i.a1.left at (omega arith) in
    let old2 = i.a2.left at (omega arith) in
    let old3 = i.a3.left at (omega arith) in
    record {
      a0 = IsDone-one 0 at n c.args.d0.now c.loop-at.d0 _ _ room i.a0 (λ k. bit_xor (old0 k) s);
      a1 = IsDone-one 0 at n c.args.d1.now c.loop-at.d1 _ _ room i.a1 (λ k. bit_xor (bit_xor (old1 k) a) (c.times.ensures k));
      a2 = IsDone-one 0 at n c.args.d2.now c.loop-at.d2 _ _ room i.a2 (λ k. bit_xor (bit_xor (old2 k) b) (c.times-in-loop-at.ensures k));
      a3 = IsDone-one 0 at n c.args.d3.now c.loop-at.d3 _ _ room i.a3
          (λ k. bit_xor
          (bit_xor (bit_xor (bit_xor (old3 k) (get_or u3 at 0)) (c.times-in-loop-at-2.ensures k)) (c.times-in-loop-at-3.ensures k))
          (c.times-in-loop-at-4.ensures k));
    }
