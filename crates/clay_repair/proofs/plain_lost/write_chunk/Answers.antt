use Rattle.std.proofs.Common.{◌≡◌, ℕ, ◌<◌, length, get_or, sym, subst, ap, ◌∙◌, inl, inr, arith}
use Rattle.std.proofs.lemmas.Bool.{cases_eq}
use Rattle.clay_grid.specs.Shape.{row_count, node_count, node_of_chunk}
use Rattle.clay_grid.specs.Repair.{repair_layers_of}
use Rattle.code_laws.specs.Rebuilt.{IsReadFor, HoldsSubchunk, HoldsRow, with_digit}
use Rattle.code_laws.proofs.Column.{node_inside, is_read}
use Rattle.code_laws.proofs.Rows.{is_rebuilt}
use Rattle.clay_repair.proofs.plain_lost.write_chunk.Goals as goal

pub solve_column-requires-clause-read : goal.solve_column-requires-clause-read
solve_column-requires-clause-read c =
    let g = c.args.g in
    let plan = c.args.plan.now in
    let layers : c.deref-z-items.result.now ≡ repair_layers_of g plan.lost = c.deref-z-items.ensures.value ∙ c.requires.plan.layers in
    subst (λ l. IsReadFor g plan.lost (get_or l c.loop-z.z-index 0)) (sym layers)
    (is_read g plan.lost c.loop-z.z-index (omega (arith, c.loop-z-test.true, ap length layers)))

pub write_row-requires-clause-read : goal.write_row-requires-clause-read
write_row-requires-clause-read c =
    let g = c.args.g in
    let plan = c.args.plan.now in
    let layers : c.deref-z-items.result.now ≡ repair_layers_of g plan.lost = c.deref-z-items.ensures.value ∙ c.requires.plan.layers in
    subst (λ l. IsReadFor g plan.lost (get_or l c.loop-z.z-index 0)) (sym layers)
    (is_read g plan.lost c.loop-z.z-index (omega (arith, c.loop-z-test.true, ap length layers)))

pub loop-z-preserved : goal.loop-z-preserved
loop-z-preserved c = λ k hk x hx.
    let g = c.args.g in
    let plan = c.args.plan.now in
    let at : ℕ = c.loop-z.z-index in
    let layer_is : get_or c.deref-z-items.result.now at 0 ≡ get_or plan.layers.items at 0 = ap (λ l. get_or l at 0) c.deref-z-items.ensures.value in
    elim (cases_eq k at) [
      | inl same ↦
          subst (λ n. HoldsSubchunk g plan.lost c.args.parts.now c.write_row.new.chunk (with_digit g plan.lost n x))
          (layer_is ∙ ap (λ i. get_or plan.layers.items i 0) (sym same)) (c.write_row.ensures.written x hx)
      | inr other ↦
          c.write_row.ensures.kept (with_digit g plan.lost (get_or plan.layers.items k 0) x) (c.loop-z.invariant k (omega (arith, hk, other)) x hx)
    ]

pub returns : goal.returns
returns c =
    let g = c.args.g in
    let plan = c.args.plan.now in
    let geometry = c.requires.plan.geometry in
    let inside : node_of_chunk g plan.lost < node_count g = node_inside g plan.lost geometry c.requires.plan.chunk in
    let layers : plan.layers.items ≡ repair_layers_of g plan.lost = c.requires.plan.layers in
    is_rebuilt g plan.lost c.args.parts.now c.loop-z.chunk (omega (arith, geometry.limits.parity_chunks.0)) (omega (arith, geometry.limits.width.0)) c.requires.plan.chunk inside
    (omega (arith, c.loop-z.auto.chunk, c.requires.chunk_len))
    (λ k h. subst (λ l. HoldsRow g plan.lost c.args.parts.now (get_or l k 0) (row_count g) c.loop-z.chunk) layers
    (c.loop-z.invariant k (omega (arith, h, ap length layers, c.loop-z-test.false, ap length c.deref-z-items.ensures.value))))
