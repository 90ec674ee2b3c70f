use Rattle.std.proofs.Common.{◌≡◌, ℕ, ◌+◌, ◌-◌, ◌*◌, ◌<◌, ◌≤◌, length, get_or, sym, subst, ap, ◌∙◌, inl, inr, arith}
use Rattle.std.proofs.lemmas.Bool.{cases_eq}
use Rattle.clay_grid.specs.Shape.{node_count, layer_count}
use Rattle.clay_model.specs.Sums.{weighted_sum, present_value}
use Rattle.clay_model.specs.Points.{byte_of, HaveSums}
use Rattle.code_laws.proofs.Pieces.{piece_fits}
use borrow.Rule.Slice.PartMut.{put_mid}
use Rattle.code_laws.specs.Solved.{HoldsPresent, HoldsLayer, HoldsLower}
use Rattle.code_laws.proofs.Layer.{lower_solved, every_layer, other_layer, layer_kept_at}
use Rattle.clay_decode.proofs.PlanLayer.{layer_written_at}
use Rattle.clay_decode.proofs.plain_layers.solve_layers.Goals as goal

pub uncouple_layer-requires-clause-lower : goal.uncouple_layer-requires-clause-lower
uncouple_layer-requires-clause-lower c =
    let plan = c.args.plan.now in
    let at : ℕ = c.loop-z.z-index in
    let within : at < length plan.layers.items = omega (arith, c.loop-z-test.true, ap length c.deref-z-items.ensures.value) in
    subst (λ l. HoldsLower c.args.g c.args.have.now plan.erased.items plan.points.items (get_or l at 0) c.loop-z.solved) (sym c.deref-z-items.ensures.value)
    (lower_solved c.args.g c.args.have.now plan.erased.items plan.points.items plan.layers.items c.loop-z.solved c.requires.plan.order at within c.loop-z.invariant)

pub slice_bounds-solve-end : goal.slice_bounds-solve-end
slice_bounds-solve-end c =
    let g = c.args.g in
    let plan = c.args.plan.now in
    let at : ℕ = c.loop-z.z-index in
    let within : at < length plan.layers.items = omega (arith, c.loop-z-test.true, ap length c.deref-z-items.ensures.value) in
    let z : ℕ = get_or c.deref-z-items.result.now at 0 in
    let below : z < layer_count g = subst (λ l. get_or l at 0 < layer_count g) (sym c.deref-z-items.ensures.value) (c.requires.plan.order.only_layers at within) in
    let count : c.len-count.result ≡ length plan.points.items = omega (arith, c.len-count.ensures, plan.points.ok.0) in
    let part : c.len-count.result * c.w-w.result ≡ length plan.points.items * g.width = λ i. count i * c.w-w.ensures.value i in
    let fits = piece_fits z (layer_count g) (length plan.points.items * g.width) below in
    let same : z * (c.len-count.result * c.w-w.result) + c.len-count.result * c.w-w.result ≡ z * (length plan.points.items * g.width) + length plan.points.items * g.width = ap (λ p. z * p + p) part in
    let ends : z * (c.len-count.result * c.w-w.result) + c.len-count.result * c.w-w.result ≤ length c.loop-z.solved = omega (arith, c.loop-z.auto.solved, c.requires.solved_len) in
    ends

pub loop-z-preserved : goal.loop-z-preserved
loop-z-preserved c = λ k hk.
    let g = c.args.g in
    let plan = c.args.plan.now in
    let points = plan.points.items in
    let at : ℕ = c.loop-z.z-index in
    let within : at < length plan.layers.items = omega (arith, c.loop-z-test.true, ap length c.deref-z-items.ensures.value) in
    let n : ℕ = get_or plan.layers.items at 0 in
    let z : ℕ = get_or c.deref-z-items.result.now at 0 in
    let layer_is : z ≡ n = ap (λ l. get_or l at 0) c.deref-z-items.ensures.value in
    let below : n < layer_count g = c.requires.plan.order.only_layers at within in
    let count : c.len-count.result ≡ length points = omega (arith, c.len-count.ensures, plan.points.ok.0) in
    let part : c.len-count.result * c.w-w.result ≡ length points * g.width = λ i. count i * c.w-w.ensures.value i in
    let start : ℕ = z * (c.len-count.result * c.w-w.result) in
    let start_is : start ≡ n * (length points * g.width) = λ i. layer_is i * part i in
    let width : start + c.len-count.result * c.w-w.result - start ≡ length points * g.width = omega (arith, part) in
    let long : length c.loop-z.solved ≡ layer_count g * (length points * g.width) = omega (arith, c.loop-z.auto.solved, c.requires.solved_len) in
    let fits = piece_fits n (layer_count g) (length points * g.width) below in
    let out_long : length c.solve.new.out ≡ length points * g.width = omega (arith, c.solve.auto.out, part, start_is, fits, long) in
    elim (cases_eq k at) [
      | inl same ↦
          let holds : HoldsPresent g c.args.have.now plan.erased.items n (node_count g) c.uncouple_layer.new.layer =
          subst (λ v. HoldsPresent g c.args.have.now plan.erased.items v (node_count g) c.uncouple_layer.new.layer) layer_is c.uncouple_layer.ensures in
          let summed : (j b : ℕ) → j < length points → b < g.width → byte_of c.syndromes.new.out g.width b j ≡ weighted_sum (node_count g) (present_value c.uncouple_layer.new.layer plan.erased.items g.width b) j =
          λ j b hj hb.
          c.syndromes.ensures j b (subst (λ v. j < v) (sym count) hj) hb
          ∙ ap (λ e. weighted_sum (node_count g) (present_value c.uncouple_layer.new.layer e g.width b) j) c.deref.ensures.value in
          let sums : HaveSums points g.width c.solve.new.out c.syndromes.new.out =
          subst (λ s. HaveSums s g.width c.solve.new.out c.syndromes.new.out) c.requires.plan.solver
          (subst (λ v. HaveSums plan.solver v c.solve.new.out c.syndromes.new.out) c.w-w.ensures.value c.solve.ensures) in
          subst (λ v. HoldsLayer g c.args.have.now points (get_or plan.layers.items v 0) (put_mid start (start + c.len-count.result * c.w-w.result - start) c.loop-z.solved c.solve.new.out)) (sym same)
          (layer_written_at g c.args.have.now plan c.requires.plan n start (start + c.len-count.result * c.w-w.result - start)
          c.uncouple_layer.new.layer c.syndromes.new.out c.loop-z.solved c.solve.new.out below start_is width long out_long holds summed sums (λ i. omega (arith, c.type_inv.solved i)))
      | inr other ↦
          let early : k < at = omega (arith, other) in
          layer_kept_at g c.args.have.now points n start (start + c.len-count.result * c.w-w.result - start) (get_or plan.layers.items k 0) c.loop-z.solved c.solve.new.out below
          (other_layer g plan.erased.items plan.layers.items c.requires.plan.order k at early within) start_is width long out_long (c.loop-z.invariant k early)
    ]

pub returns : goal.returns
returns c =
    let plan = c.args.plan.now in
    every_layer c.args.g c.args.have.now plan.erased.items plan.points.items plan.layers.items c.loop-z.solved c.requires.plan.order
    (λ k h. c.loop-z.invariant k (omega (arith, c.loop-z-test.false, ap length c.deref-z-items.ensures.value)))
