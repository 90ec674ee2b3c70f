use Rattle.std.proofs.Common.{◌≡◌, ℕ, ◌+◌, ◌-◌, ◌*◌, ◌<◌, ◌≤◌, length, sym, subst, ap, ◌∙◌, arith}
use Rattle.clay_grid.specs.Shape.{Shape, layer_count}
use Rattle.code_laws.proofs.Pieces.{piece_fits}
use borrow.Rule.Slice.PartMut.{put_mid}
use Rattle.lane_repair.specs.Views.{pieces_of}
use Rattle.clay_aloof.specs.Shape.{grid_of}
use Rattle.clay_aloof.specs.Rebuilt.{HoldsLost}
use Rattle.clay_aloof.proofs.Column.{lost_more, is_lost_chunk}
use Rattle.clay_aloof.proofs.lost_chunk.write_lost.Goals as goal

pub loop-z-preserved : goal.loop-z-preserved
loop-z-preserved c =
    let g = c.args.g in
    let z : ℕ = c.loop-z.z in
    let w : c.w-w.result ≡ g.width = c.w-w.ensures.value ∙ ap (λ (s : Shape). s.width) c.grid-grid.ensures.value in
    let low : z < c.alpha-z-end.result = omega (arith, c.loop-z-test.true) in
    let below : z < layer_count (grid_of g) = subst (λ n. z < n) (c.alpha-z-end.ensures.value ∙ ap layer_count c.grid-grid.ensures.value) low in
    let fits : z * g.width + g.width ≤ layer_count (grid_of g) * g.width = piece_fits z (layer_count (grid_of g)) g.width below in
    let all : length c.loop-z.chunk ≡ layer_count (grid_of g) * g.width = c.loop-z.auto.chunk ∙ c.requires.chunk_len in
    let start : z * g.width ≤ length c.loop-z.chunk = subst (λ n. z * g.width ≤ n) (sym all) (omega (arith, fits)) in
    let out : length c.lost_piece.new.out ≡ z * c.w-w.result + c.w-w.result - z * c.w-w.result = omega (arith, c.lost_piece.auto.out) in
    let long : length c.lost_piece.new.out ≡ g.width = out ∙ middle (z * c.w-w.result) c.w-w.result ∙ w in
    subst (λ v. HoldsLost g c.args.lost (pieces_of c.args.parts) (z + 1) (put_mid (z * v) (z * v + v - z * v) c.loop-z.chunk c.lost_piece.new.out)) (sym w)
    (lost_more g c.args.lost (pieces_of c.args.parts) z (z * g.width + g.width - z * g.width) c.loop-z.chunk c.lost_piece.new.out start long c.loop-z.invariant c.lost_piece.ensures)
  where
    middle : (a w : ℕ) → a + w - a ≡ w
    middle a w = omega arith

pub returns : goal.returns
returns c =
    let g = c.args.g in
    let ended : c.loop-z.z ≡ c.alpha-z-end.result = omega (arith, c.loop-z-test.false, c.loop-z.auto.z-end) in
    let total : c.loop-z.z ≡ layer_count (grid_of g) = ended ∙ c.alpha-z-end.ensures.value ∙ ap layer_count c.grid-grid.ensures.value in
    is_lost_chunk g c.args.lost (pieces_of c.args.parts) c.loop-z.chunk c.grid-grid.ensures.geometry c.requires.parts.chunk (c.loop-z.auto.chunk ∙ c.requires.chunk_len)
    (subst (λ n. HoldsLost g c.args.lost (pieces_of c.args.parts) n c.loop-z.chunk) total c.loop-z.invariant)
