use Rattle.std.proofs.Common.{◌≡◌, ℕ, ◌+◌, ◌-◌, ◌*◌, ◌<◌, ◌≤◌, length, set, sym, subst, ap, ◌∙◌, inl, inr, arith}
use Rattle.std.proofs.lemmas.Bool.{cases_eq}
use Rattle.clay_grid.specs.Shape.{row_count, layer_count}
use Rattle.clay_grid.specs.Layers.{layer_of, index_of}
use Rattle.code_laws.proofs.Pieces.{piece_fits}
use borrow.Rule.Slice.PartMut.{put_mid}
use Rattle.code_laws.specs.Rebuilt.{HoldsSubchunk, with_digit}
use Rattle.code_laws.proofs.Rows.{subchunk_written, subchunk_kept}
use Rattle.clay_repair.proofs.plain_lost.write_row.Goals as goal

pub loop-x-preserved : goal.loop-x-preserved
loop-x-preserved c =
    let g = c.args.g in
    let plan = c.args.plan.now in
    let parts = c.args.parts.now in
    let x : ℕ = c.loop-x.x in
    let n : ℕ = with_digit g plan.lost c.args.z x in
    let w : ℕ = c.w-w.result in
    let at : ℕ = c.partner.result.z * w in
    let number : c.partner.result.z ≡ n =
    c.partner.ensures.number ∙ ap (λ y. index_of (row_count g) (set (layer_of g c.args.z) y x)) c.requires.plan.column in
    let at_is : at ≡ n * g.width = λ k. number k * c.w-w.ensures.value k in
    let width : at + w - at ≡ g.width = omega (arith, c.w-w.ensures.value) in
    let below : n < layer_count g = subst (λ v. v < layer_count g) number c.partner.ensures.in_layers in
    let room : n * g.width + g.width ≤ layer_count g * g.width = piece_fits n (layer_count g) g.width below in
    let fits : n * g.width + g.width ≤ length c.loop-x.chunk = omega (arith, room, c.loop-x.auto.chunk, c.requires.chunk_len) in
    let long : length c.write_subchunk.new.out ≡ g.width = omega (arith, c.write_subchunk.auto.out, width, at_is, fits) in
    let chunk = put_mid at (at + w - at) c.loop-x.chunk c.write_subchunk.new.out in
    let kept : (p : ℕ) → HoldsSubchunk g plan.lost parts c.loop-x.chunk p → HoldsSubchunk g plan.lost parts chunk p =
    λ p. subchunk_kept g plan.lost parts n p at (at + w - at) c.loop-x.chunk c.write_subchunk.new.out at_is width fits long c.write_subchunk.ensures in
    record {
      written = λ v h. elim (cases_eq v x) [
        | inl same ↦ subst (λ d. HoldsSubchunk g plan.lost parts chunk (with_digit g plan.lost c.args.z d)) (sym same)
            (subchunk_written g plan.lost parts n at (at + w - at) c.loop-x.chunk c.write_subchunk.new.out at_is (omega (arith, fits)) long c.write_subchunk.ensures)
        | inr other ↦ kept (with_digit g plan.lost c.args.z v) (c.loop-x.invariant.written v (omega (arith, h, other)))
      ];
      kept = λ p h. kept p (c.loop-x.invariant.kept p h);
    }
