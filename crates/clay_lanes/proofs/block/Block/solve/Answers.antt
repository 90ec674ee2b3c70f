use Rattle.std.proofs.Common.{◌≡◌, ℕ, ◌+◌, ◌-◌, ◌*◌, ◌<◌, ◌≤◌, List, length, get_or, sym, subst, ap, ◌∙◌, inl, inr, arith}
use Rattle.std.proofs.lemmas.Bool.{cases_eq}
use Rattle.clay_grid.specs.Shape.{layer_count}
use Rattle.code_laws.proofs.Pieces.{piece_fits}
use borrow.Rule.Slice.PartMut.{put_mid}
use Rattle.code_laws.proofs.Layer.{other_layer}
use Rattle.lane_repair.specs.Views.{pieces_of}
use Rattle.lane_repair.specs.Pieces.{HoldsRows}
use Rattle.clay_lanes.specs.Present.{FitsChunks}
use Rattle.clay_lanes.specs.Recovered.{HoldsLayerRows, HoldsLower}
use Rattle.clay_lanes.proofs.Recovery.{lower_solved, every_layer, layer_written, layer_kept}
use Rattle.clay_lanes.proofs.block.Block.solve.Goals as goal

pub solve_layer-requires-clause-lower : goal.solve_layer-requires-clause-lower
solve_layer-requires-clause-lower c =
    let g = c.args.self.now.g in
    let plan = c.args.self.now.plan.now in
    let fits : List (List ℕ) → Type 0 = λ word. FitsChunks g (pieces_of c.args.self.now.have) word in
    let i : ℕ = c.loop-z.z-index in
    let within : i < length plan.layers.items = omega (arith, c.loop-z-test.true, ap length c.deref-z-items.ensures.value) in
    subst (λ l. HoldsLower g fits c.args.self.now.at (c.args.self.now.len) plan.erased.items plan.points.items (get_or l i 0) c.loop-z.solved) (sym c.deref-z-items.ensures.value)
    (lower_solved g fits c.args.self.now.at (c.args.self.now.len) plan.erased.items plan.points.items plan.layers.items c.loop-z.solved c.requires.block.planned.order i within c.loop-z.invariant)

pub slice_bounds-copy_from_slice-end : goal.slice_bounds-copy_from_slice-end
slice_bounds-copy_from_slice-end c =
    let g = c.args.self.now.g in
    let plan = c.args.self.now.plan.now in
    let i : ℕ = c.loop-z.z-index in
    let within : i < length plan.layers.items = omega (arith, c.loop-z-test.true, ap length c.deref-z-items.ensures.value) in
    let z : ℕ = get_or c.deref-z-items.result.now i 0 in
    let rows : ℕ = length plan.points.items * c.args.self.now.len in
    let below : z < layer_count g = subst (λ l. get_or l i 0 < layer_count g) (sym c.deref-z-items.ensures.value) (c.requires.block.planned.order.only_layers i within) in
    let part : length c.args.rows.now ≡ rows = c.requires.rows_len in
    let fits = piece_fits z (layer_count g) rows below in
    let same : z * length c.args.rows.now + length c.args.rows.now ≡ z * rows + rows = ap (λ p. z * p + p) part in
    let ends : z * length c.args.rows.now + length c.args.rows.now ≤ length c.loop-z.solved = omega (arith, same, fits, c.loop-z.auto.solved, c.requires.solved_len) in
    ends

pub loop-z-preserved : goal.loop-z-preserved
loop-z-preserved c = λ k hk.
    let g = c.args.self.now.g in
    let plan = c.args.self.now.plan.now in
    let fits : List (List ℕ) → Type 0 = λ word. FitsChunks g (pieces_of c.args.self.now.have) word in
    let at : ℕ = c.args.self.now.at in
    let len : ℕ = c.args.self.now.len in
    let points = plan.points.items in
    let order = c.requires.block.planned.order in
    let i : ℕ = c.loop-z.z-index in
    let within : i < length plan.layers.items = omega (arith, c.loop-z-test.true, ap length c.deref-z-items.ensures.value) in
    let n : ℕ = get_or plan.layers.items i 0 in
    let z : ℕ = get_or c.deref-z-items.result.now i 0 in
    let layer_is : z ≡ n = ap (λ l. get_or l i 0) c.deref-z-items.ensures.value in
    let below : n < layer_count g = order.only_layers i within in
    let part : length c.args.rows.now ≡ length points * len = c.requires.rows_len in
    let start : ℕ = z * length c.args.rows.now in
    let start_is : start ≡ n * (length points * len) = λ t. layer_is t * part t in
    let width : start + length c.args.rows.now - start ≡ length points * len = omega (arith, part) in
    let long : length c.loop-z.solved ≡ layer_count g * (length points * len) = c.loop-z.auto.solved ∙ c.requires.solved_len in
    let rows = c.solve_layer.new.rows in
    let rows_long : length rows ≡ length points * len = c.solve_layer.auto.rows ∙ c.loop-z.auto.rows ∙ c.requires.rows_len in
    let solved : List ℕ = put_mid start (start + length c.args.rows.now - start) c.loop-z.solved rows in
    subst (λ l. HoldsLayerRows g fits at len points (get_or plan.layers.items k 0) (put_mid start (start + length c.args.rows.now - start) c.loop-z.solved l)) (sym c.copy_from_slice.ensures.after)
    (elim (cases_eq k i) [
      | inl same ↦
          let holds : HoldsRows g fits at len points n rows =
          subst (λ v. HoldsRows g fits at len points v rows) layer_is c.solve_layer.ensures in
          subst (λ v. HoldsLayerRows g fits at len points (get_or plan.layers.items v 0) solved) (sym same)
          (layer_written g fits at len points n start (start + length c.args.rows.now - start) c.loop-z.solved rows below start_is long rows_long holds)
      | inr other ↦
          let early : k < i = omega (arith, hk, other) in
          layer_kept g fits at len points n start (start + length c.args.rows.now - start) (get_or plan.layers.items k 0) c.loop-z.solved rows below
          (other_layer g plan.erased.items plan.layers.items order k i early within) start_is width long rows_long (c.loop-z.invariant k early)
    ])

pub returns : goal.returns
returns c =
    let plan = c.args.self.now.plan.now in
    every_layer c.args.self.now.g (λ word. FitsChunks c.args.self.now.g (pieces_of c.args.self.now.have) word) c.args.self.now.at (c.args.self.now.len) plan.erased.items plan.points.items plan.layers.items c.loop-z.solved c.requires.block.planned.order
    (λ k h. c.loop-z.invariant k (omega (arith, h, c.loop-z-test.false, ap length c.deref-z-items.ensures.value)))
