use Rattle.std.proofs.Common.{◌≡◌, ℕ, ◌+◌, ◌-◌, ◌*◌, ◌<◌, ◌≤◌, length, sym, subst, arith}
use Rattle.clay_grid.specs.Shape.{layer_count}
use Rattle.code_laws.proofs.Pieces.{piece_fits}
use borrow.Rule.Slice.PartMut.{put_mid}
use Rattle.clay_aloof.specs.Solved.{HoldsSubchunks}
use Rattle.clay_aloof.proofs.Layer.{subchunk_more}
use Rattle.clay_aloof.specs.Known.{node_bytes}
use Rattle.clay_aloof.proofs.aloof_chunks.couple_chunk.Goals as goal

pub loop-z-preserved : goal.loop-z-preserved
loop-z-preserved c =
    let g = c.args.g in
    let z : ℕ = c.loop-z.z in
    let below : z < layer_count g = omega (arith, c.loop-z-test.true, c.alpha-z-end.ensures.value) in
    let fits = piece_fits z (layer_count g) g.width below in
    let start : z * g.width ≤ length c.loop-z.chunk = omega (arith, c.loop-z.auto.chunk, c.requires.chunk_len) in
    let long : length c.couple_piece.new.out ≡ g.width = omega arith in
    subst (λ w. HoldsSubchunks g c.args.plan.now (node_bytes c.args.g c.args.known.now) c.args.node (z + 1) (put_mid (z * w) (z * w + w - z * w) c.loop-z.chunk c.couple_piece.new.out)) (sym c.w-w.ensures.value)
    (subchunk_more g c.args.plan.now (node_bytes c.args.g c.args.known.now) c.args.node z (z * g.width + g.width - z * g.width) c.loop-z.chunk c.couple_piece.new.out start long c.loop-z.invariant c.couple_piece.ensures)
