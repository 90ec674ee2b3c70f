use Rattle.std.proofs.Common.{ℕ, arith, ◌<◌, length, get_or, bit_xor}
use Rattle.generator_matrix.specs.Columns.{both_of}
use Rattle.clay_kernels.proofs.ProgressLemmas.{IsDone-one}
use Rattle.generator_matrix.proofs.small_columns.add_three_values.Goals as goal

pub loop-at-preserved : goal.loop-at-preserved
loop-at-preserved c =
    let i = c.loop-at.invariant in
    let at = c.loop-at.at in
    let n = length c.args.near.now in
    let middle = c.args.middle.now in
    let room : at < n = c.loop-at-test.true in
    let both : ℕ = both_of c.args.near.now middle at in
    let other : ℕ = get_or c.args.far.now at 0 in
    let old0 = i.a0.left at (omega arith) in
    let old1 = i.a1.left at (omega arith) in
    let old2 = i.a2.left at (omega arith) in
    record {
      a0 = IsDone-one 0 at n c.args.row.now c.loop-at.row _ _ room i.a0 (λ k. bit_xor (bit_xor (bit_xor (bit_xor (old0 k) both) other) (bit_xor (bit_xor (get_or middle at 0) (c.times.ensures k)) (c.times-in-loop-at.ensures k))) (bit_xor (c.times-in-loop-at-2.ensures k) (c.times-in-loop-at-3.ensures k)));
      a1 = IsDone-one 0 at n c.args.middle_row.now c.loop-at.middle_row _ _ room i.a1 (λ k. bit_xor (old1 k) (bit_xor (bit_xor (get_or middle at 0) (c.times.ensures k)) (c.times-in-loop-at.ensures k)));
      a2 = IsDone-one 0 at n c.args.last_row.now c.loop-at.last_row _ _ room i.a2 (λ k. bit_xor (old2 k) (bit_xor (c.times-in-loop-at-2.ensures k) (c.times-in-loop-at-3.ensures k)));
    }
