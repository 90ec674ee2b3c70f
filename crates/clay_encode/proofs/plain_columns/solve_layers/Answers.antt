use Rattle.std.proofs.Common.{◌≡◌, ℕ, ◌+◌, ◌-◌, ◌*◌, ◌<◌, ◌≤◌, length, subst, sym, ap, arith}
use Rattle.clay_grid.specs.Shape.{row_count, layer_count}
use Rattle.clay_model.specs.Points.{HaveSums}
use Rattle.code_laws.specs.Columns.{IsLastColumn, IsSolved}
use Rattle.code_laws.proofs.Pieces.{piece_fits}
use Rattle.clay_encode.proofs.Solved.{one_more_layer}
use borrow.Rule.Slice.PartMut.{put_mid}
use Rattle.clay_encode.proofs.plain_columns.solve_layers.Goals as goal

pub slice_bounds-solve-end : goal.slice_bounds-solve-end
slice_bounds-solve-end c =
    let g = c.args.g in
    let part : c.m.result * c.w-w.result ≡ g.parity_count * g.width = λ i. c.m.ensures.value i * c.w-w.ensures.value i in
    let below : c.loop-z.z < layer_count g = omega arith in
    let fits = piece_fits c.loop-z.z (layer_count g) (g.parity_count * g.width) below in
    let same : c.loop-z.z * (c.m.result * c.w-w.result) + c.m.result * c.w-w.result ≡ c.loop-z.z * (g.parity_count * g.width) + g.parity_count * g.width =
    ap (λ p. c.loop-z.z * p + p) part in
    let ends : c.loop-z.z * (c.m.result * c.w-w.result) + c.m.result * c.w-w.result ≤ length c.loop-z.column = omega arith in
    ends

pub loop-z-preserved : goal.loop-z-preserved
loop-z-preserved c =
    let g = c.args.g in
    let z : ℕ = c.loop-z.z in
    let width : ℕ = g.parity_count * g.width in
    let rows : 0 < row_count g = let some = c.w-w.ensures.geometry.limits.parity_chunks.0 in omega arith in
    let below : z < layer_count g = omega arith in
    let part : width ≡ c.m.result * c.w-w.result = λ i. sym c.m.ensures.value i * sym c.w-w.ensures.value i in
    let fits = piece_fits z (layer_count g) width below in
    let start : z * width ≤ length c.loop-z.column = omega arith in
    let long : length c.solve.new.out ≡ width = omega arith in
    let last : IsLastColumn g c.args.last.now.solver c.deref.result.now =
    subst (λ e. IsLastColumn g c.args.last.now.solver e) (sym c.deref.ensures.value) c.requires.last_column in
    let have : HaveSums c.args.last.now.solver g.width c.solve.new.out c.syndromes.new.out =
    subst (λ w. HaveSums c.args.last.now.solver w c.solve.new.out c.syndromes.new.out) c.w-w.ensures.value c.solve.ensures in
    record {
      bytes = λ i. omega (arith, c.type_inv.column i);
      solved =
          subst (λ p. (n : ℕ) → n < z + 1 → IsSolved g c.args.stripe.now n (put_mid (z * p) (z * p + p - z * p) c.loop-z.column c.solve.new.out)) part
          (one_more_layer g c.args.stripe.now z (z * width + width - z * width) c.args.last.now.solver c.uncouple_layer.new.layer c.syndromes.new.out c.loop-z.column c.deref.result.now
          rows below start c.loop-z.invariant.solved last c.uncouple_layer.ensures
          (λ j b hj hb. c.syndromes.ensures j b (subst (λ n. j < n) (sym c.m-in-loop-z.ensures.value) hj) hb)
          c.solve.new.out long have);
    }
