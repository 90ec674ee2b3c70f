use Rattle.std.proofs.Common.{◌≡◌, ℕ, ◌+◌, ◌*◌, ◌<◌, List, length, get_or, sym, subst, ap, ◌∙◌, inl, inr, arith}
use Rattle.std.proofs.lemmas.Bool.{cases_eq}
use Rattle.clay_grid.specs.Shape.{node_count, node_of_chunk}
use Rattle.clay_grid.specs.Repair.{repair_layers_of}
use Rattle.code_laws.specs.Rebuilt.{IsReadFor, with_digit}
use Rattle.code_laws.proofs.Column.{node_inside, is_read}
use Rattle.lane_repair.specs.Pieces.{HoldsByte}
use Rattle.lane_repair.proofs.RepairLemmas.{rebuilt_chunk}
use Rattle.lane_repair.specs.Views.{FitsPieces, pieces_of}
use Rattle.lane_repair.proofs.repair.write_chunk.Goals as goal

pub write_parts-requires-clause-block : goal.write_parts-requires-clause-block
write_parts-requires-clause-block c =
    let g = c.args.g in
    let plan = c.args.plan.now in
    let layers : c.deref-z-items.result.now ≡ repair_layers_of g plan.lost = c.deref-z-items.ensures.value ∙ c.requires.plan.layers in
    record {
      planned = c.requires.plan;
      parts = c.requires.parts;
      room = c.requires.room;
      read = subst (λ l. IsReadFor g plan.lost (get_or l c.loop-z.z-index 0)) (sym layers)
          (is_read g plan.lost c.loop-z.z-index (omega (arith, c.loop-z-test.true, ap length layers)));
      within = omega (arith, c.w.ensures.value);
    }

pub loop-z-preserved : goal.loop-z-preserved
loop-z-preserved c = λ k x b hk hx hb.
    let g = c.args.g in
    let plan = c.args.plan.now in
    let fits : List (List ℕ) → Type 0 = λ word. FitsPieces g plan.lost (pieces_of c.args.parts) word in
    let at : ℕ = c.loop-z.z-index in
    let layer_is : get_or c.deref-z-items.result.now at 0 ≡ get_or plan.layers.items at 0 = ap (λ l. get_or l at 0) c.deref-z-items.ensures.value in
    elim (cases_eq k at) [
      | inl same ↦
          let flat : 0 + b ≡ b = omega arith in
          subst (λ n. HoldsByte fits plan.lost c.write_parts.new.chunk (with_digit g plan.lost n x * g.width + b))
          (layer_is ∙ ap (λ i. get_or plan.layers.items i 0) (sym same))
          (subst (λ v. HoldsByte fits plan.lost c.write_parts.new.chunk (with_digit g plan.lost (get_or c.deref-z-items.result.now at 0) x * g.width + v)) flat
          (c.write_parts.ensures.written x b hx (omega (arith, hb, c.w.ensures.value))))
      | inr other ↦
          c.write_parts.ensures.kept (with_digit g plan.lost (get_or plan.layers.items k 0) x * g.width + b) (c.loop-z.invariant k x b (omega (arith, hk, other)) hx hb)
    ]

pub returns : goal.returns
returns c =
    let g = c.args.g in
    let plan = c.args.plan.now in
    let parts = pieces_of c.args.parts in
    let geometry = c.requires.plan.geometry in
    let inside : node_of_chunk g plan.lost < node_count g = node_inside g plan.lost geometry c.requires.plan.chunk in
    let layers : plan.layers.items ≡ repair_layers_of g plan.lost = c.requires.plan.layers in
    rebuilt_chunk g plan.lost parts c.loop-z.chunk (omega (arith, geometry.limits.parity_chunks.0)) (omega (arith, geometry.limits.width.0)) c.requires.plan.chunk inside
    (omega (arith, c.loop-z.auto.chunk, c.requires.chunk_len))
    (λ k x b h hx hb. subst (λ l. HoldsByte (λ word. FitsPieces g plan.lost parts word) plan.lost c.loop-z.chunk (with_digit g plan.lost (get_or l k 0) x * g.width + b)) layers
    (c.loop-z.invariant k x b (omega (arith, h, ap length layers, c.loop-z-test.false, ap length c.deref-z-items.ensures.value)) hx hb))
