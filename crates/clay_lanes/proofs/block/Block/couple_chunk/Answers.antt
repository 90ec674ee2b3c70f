use Rattle.std.proofs.Common.{◌≡◌, ℕ, ◌+◌, ◌-◌, ◌*◌, ◌<◌, ◌≤◌, List, length, sym, subst, ap, ◌∙◌, inl, inr, arith}
use Rattle.std.proofs.lemmas.Bool.{cases_eq}
use Rattle.clay_grid.specs.Shape.{row_count, layer_count}
use Rattle.code_laws.proofs.Pieces.{piece_fits}
use borrow.Rule.Slice.PartMut.{put_mid}
use Rattle.code_laws.proofs.Nodes.{node_real}
use Rattle.lane_repair.specs.Views.{pieces_of}
use Rattle.lane_repair.specs.Pieces.{HoldsByte}
use Rattle.lane_repair.proofs.RowLemmas.{piece_written, byte_kept}
use Rattle.clay_lanes.specs.Present.{FitsChunks}
use Rattle.clay_lanes.proofs.block.Block.couple_chunk.Goals as goal

pub loop-z-preserved : goal.loop-z-preserved
loop-z-preserved c =
    let g = c.args.self.now.g in
    let at : ℕ = c.args.self.now.at in
    let len : ℕ = c.args.self.now.len in
    let z : ℕ = c.loop-z.z in
    let node : ℕ = c.node_of_chunk-node.result in
    let fits : List (List ℕ) → Type 0 = λ word. FitsChunks g (pieces_of c.args.self.now.have) word in
    let rows : 0 < row_count g = let some = c.requires.block.planned.geometry.limits.parity_chunks.0 in omega arith in
    let below : z < layer_count g = omega (arith, c.loop-z-test.true, c.alpha-z-end.ensures.value) in
    let start : ℕ = z * c.w-w.result + at in
    let start_is : start ≡ z * g.width + at = ap (λ v. z * v + at) c.w-w.ensures.value in
    let width : start + len - start ≡ len = omega arith in
    let fitting = piece_fits z (layer_count g) g.width below in
    let room : start + len ≤ length c.loop-z.chunk = omega (arith, start_is, fitting, c.loop-z.auto.chunk, c.requires.chunk_len, c.requires.block.within) in
    let long : length c.couple_piece.new.out ≡ len = omega (arith, c.couple_piece.auto.out, room, width) in
    let node_is = node_real g c.args.c node (sym c.node_of_chunk-node.ensures.value) in
    let chunk : List ℕ = put_mid start (start + len - start) c.loop-z.chunk c.couple_piece.new.out in
    let kept : (p : ℕ) → HoldsByte fits c.args.c c.loop-z.chunk p → HoldsByte fits c.args.c chunk p =
    byte_kept g fits at len c.args.c node z start (start + len - start) c.loop-z.chunk c.couple_piece.new.out rows below node_is start_is width room long c.couple_piece.ensures in
    record {
      written = λ v b hv hb. elim (cases_eq v z) [
        | inl same ↦
            let grouped : z * g.width + at + b ≡ z * g.width + (at + b) = omega arith in
            let place : start + b ≡ v * g.width + (at + b) = ap (λ s. s + b) start_is ∙ grouped ∙ ap (λ n. n * g.width + (at + b)) (sym same) in
            subst (HoldsByte fits c.args.c chunk) place
            (piece_written g fits at len c.args.c node z start (start + len - start) c.loop-z.chunk c.couple_piece.new.out rows below node_is start_is (omega (arith, room)) long c.couple_piece.ensures b hb)
        | inr other ↦ kept (v * g.width + (at + b)) (c.loop-z.invariant.written v b (omega (arith, hv, other)) hb)
      ];
      kept = λ p h. kept p (c.loop-z.invariant.kept p h);
    }

pub returns-clause-written : goal.returns-clause-written
returns-clause-written c = λ z b hz hb. c.loop-z.invariant.written z b (omega (arith, hz, c.loop-z-test.false, c.alpha-z-end.ensures.value)) hb
