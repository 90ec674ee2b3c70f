use Rattle.std.proofs.Common.{◌≡◌, ℕ, ◌+◌, ◌-◌, ◌*◌, ◌<◌, ◌≤◌, length, subst, sym, ap, arith}
use Rattle.clay_grid.specs.Shape.{layer_count}
use Rattle.clay_grid.specs.Layers.{layer_of}
use Rattle.code_laws.specs.Columns.{coupled_last, HoldsPieces}
use Rattle.code_laws.proofs.Pieces.{piece_fits, no_pieces, one_more_piece}
use borrow.Rule.Slice.PartMut.{put_mid}
use Rattle.clay_encode.proofs.plain_chunks.couple_chunk.Goals as goal

pub loop-z-init : goal.loop-z-init
loop-z-init c = no_pieces c.args.g.width _ c.args.chunk.now

pub slice_bounds-couple_piece-end : goal.slice_bounds-couple_piece-end
slice_bounds-couple_piece-end c =
    let below : c.loop-z.z < layer_count c.args.g = omega arith in
    let fits = piece_fits c.loop-z.z (layer_count c.args.g) c.args.g.width below in
    let end : c.loop-z.z * c.w-w.result + c.w-w.result ≡ c.loop-z.z * c.args.g.width + c.args.g.width = ap (λ w. c.loop-z.z * w + w) c.w-w.ensures.value in
    let ends : c.loop-z.z * c.w-w.result + c.w-w.result ≤ length c.loop-z.chunk = omega arith in
    ends

pub loop-z-preserved : goal.loop-z-preserved
loop-z-preserved c =
    let g = c.args.g in
    let value : ℕ → ℕ → ℕ = λ n b. coupled_last g c.args.column.now b c.args.x (layer_of g n) in
    let below : c.loop-z.z < layer_count g = omega arith in
    let fits = piece_fits c.loop-z.z (layer_count g) g.width below in
    let width : g.width ≡ c.w-w.result = sym c.w-w.ensures.value in
    let start : c.loop-z.z * g.width ≤ length c.loop-z.chunk = omega arith in
    let long : length c.couple_piece.new.out ≡ g.width = omega arith in
    subst (λ w. HoldsPieces g.width (c.loop-z.z + 1) value (put_mid (c.loop-z.z * w) (c.loop-z.z * w + w - c.loop-z.z * w) c.loop-z.chunk c.couple_piece.new.out))
    width
    (one_more_piece g.width c.loop-z.z (c.loop-z.z * g.width + g.width - c.loop-z.z * g.width) value c.loop-z.chunk c.couple_piece.new.out start long c.loop-z.invariant c.couple_piece.ensures)
