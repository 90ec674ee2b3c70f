use Rattle.std.proofs.Common.{◌≡◌, ℕ, ◌+◌, ◌-◌, ◌*◌, ◌<◌, ◌≤◌, List, length, set, refl, sym, subst, ap, ◌∙◌, inl, inr, arith}
use Rattle.std.proofs.lemmas.Bool.{cases_eq}
use Rattle.clay_grid.specs.Shape.{row_count, layer_count, node_of_chunk}
use Rattle.clay_grid.specs.Layers.{layer_of, index_of}
use Rattle.code_laws.proofs.Pieces.{piece_fits}
use borrow.Rule.Slice.PartMut.{put_mid}
use Rattle.code_laws.proofs.Nodes.{node_real}
use Rattle.code_laws.specs.Rebuilt.{with_digit}
use Rattle.lane_repair.specs.Pieces.{HoldsByte}
use Rattle.lane_repair.specs.Repaired.{column_nodes}
use Rattle.lane_repair.proofs.RowLemmas.{piece_written, byte_kept}
use Rattle.lane_repair.proofs.RepairLemmas.{row_piece, length-column_nodes, column_node_at}
use Rattle.lane_repair.specs.Views.{FitsPieces, pieces_of}
use Rattle.lane_repair.proofs.read_block.ReadBlock.write.Goals as goal

pub write_subchunk-requires-clause-own : goal.write_subchunk-requires-clause-own
write_subchunk-requires-clause-own c =
    let g = c.args.self.now.g in
    let plan = c.args.self.now.plan.now in
    let x : ℕ = c.loop-x.x in
    let from : ℕ = x * c.args.self.now.len in
    let hx : x < row_count g = omega (arith, c.loop-x-test.true, c.q-x-end.ensures.value) in
    let width : from + c.args.self.now.len - from ≡ c.args.self.now.len = omega arith in
    row_piece g (λ word. FitsPieces g plan.lost (pieces_of c.args.self.now.parts) word) c.args.self.now.at c.args.self.now.len (column_nodes g plan.column) c.args.self.now.z c.args.rows.now x (plan.column * row_count g + x) from (from + c.args.self.now.len - from)
    c.requires.rows (omega (arith, hx, length-column_nodes g plan.column)) (column_node_at g plan.column x hx) refl width

pub loop-x-preserved : goal.loop-x-preserved
loop-x-preserved c =
    let g = c.args.self.now.g in
    let plan = c.args.self.now.plan.now in
    let at : ℕ = c.args.self.now.at in
    let len : ℕ = c.args.self.now.len in
    let fits : List (List ℕ) → Type 0 = λ word. FitsPieces g plan.lost (pieces_of c.args.self.now.parts) word in
    let x : ℕ = c.loop-x.x in
    let n : ℕ = with_digit g plan.lost c.args.self.now.z x in
    let node : ℕ = node_of_chunk g plan.lost in
    let rows : 0 < row_count g = omega (arith, c.requires.block.planned.geometry.limits.parity_chunks.0) in
    let number : c.partner.result.z ≡ n =
    c.partner.ensures.number ∙ ap (λ y. index_of (row_count g) (set (layer_of g c.args.self.now.z) y x)) c.requires.block.planned.column in
    let start : ℕ = c.partner.result.z * c.w-w.result + at in
    let start_is : start ≡ n * g.width + at = λ k. number k * c.w-w.ensures.value k + at in
    let below : n < layer_count g = subst (λ v. v < layer_count g) number c.partner.ensures.in_layers in
    let fitting = piece_fits n (layer_count g) g.width below in
    let width : start + len - start ≡ len = omega arith in
    let room : start + len ≤ length c.loop-x.chunk = omega (arith, start_is, fitting, c.loop-x.auto.chunk, c.requires.chunk_len, c.requires.block.within) in
    let long : length c.write_subchunk.new.out ≡ len = omega (arith, c.write_subchunk.auto.out, room, width) in
    let node_is = node_real g plan.lost node refl in
    let chunk : List ℕ = put_mid start (start + len - start) c.loop-x.chunk c.write_subchunk.new.out in
    let kept : (p : ℕ) → HoldsByte fits plan.lost c.loop-x.chunk p → HoldsByte fits plan.lost chunk p =
    byte_kept g fits at len plan.lost node n start (start + len - start) c.loop-x.chunk c.write_subchunk.new.out rows below node_is start_is width room long c.write_subchunk.ensures in
    record {
      written = λ v b hv hb. elim (cases_eq v x) [
        | inl same ↦
            let grouped : n * g.width + at + b ≡ n * g.width + (at + b) = omega arith in
            let place : start + b ≡ with_digit g plan.lost c.args.self.now.z v * g.width + (at + b) =
            ap (λ s. s + b) start_is ∙ grouped ∙ ap (λ d. with_digit g plan.lost c.args.self.now.z d * g.width + (at + b)) (sym same) in
            subst (HoldsByte fits plan.lost chunk) place
            (piece_written g fits at len plan.lost node n start (start + len - start) c.loop-x.chunk c.write_subchunk.new.out rows below node_is start_is (omega (arith, room)) long c.write_subchunk.ensures b hb)
        | inr other ↦ kept (with_digit g plan.lost c.args.self.now.z v * g.width + (at + b)) (c.loop-x.invariant.written v b (omega (arith, hv, other)) hb)
      ];
      kept = λ p h. kept p (c.loop-x.invariant.kept p h);
    }

pub returns-clause-written : goal.returns-clause-written
returns-clause-written c = λ x b hx hb. c.loop-x.invariant.written x b (omega (arith, hx, c.loop-x-test.false, c.q-x-end.ensures.value)) hb
