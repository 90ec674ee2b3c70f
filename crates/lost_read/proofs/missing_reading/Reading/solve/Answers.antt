use Rattle.std.proofs.Common.{ℕ, ◌<◌, length, get_or, sym, subst, ap, ◌∙◌, inl, inr, arith}
use Rattle.std.proofs.lemmas.Bool.{cases_eq}
use Rattle.clay_grid.specs.Shape.{layer_count}
use Rattle.lost_layers.specs.ErasedLayers.{is_solved}
use Rattle.lost_read.specs.MissingReadings.{run_of}
use Rattle.lost_read.specs.Values.{HoldsLayerIn, HoldsLowerIn, AddsLayerIn}
use Rattle.lost_read.proofs.MissingReadLaws.{other_layer, stands_earlier}
use Rattle.lost_read.proofs.missing_reading.Reading.solve.Goals as goal

pub add_layer-requires-clause-lower : goal.add_layer-requires-clause-lower
add_layer-requires-clause-lower c =
    let self = c.args.self.now in
    let e = run_of self in
    let order = self.plan.now.order.items in
    let at : ℕ = c.loop-layer.layer-index in
    let within : at < length order = omega (arith, c.loop-layer-test.true, ap length c.deref-layer-items.ensures.value) in
    subst (λ l. HoldsLowerIn self (get_or l at 0) c.loop-layer.values) (sym c.deref-layer-items.ensures.value)
    (λ p hp solved lower.
    let found = stands_earlier e.g e.unknown order c.requires.reading.planned.by_score p at hp within lower in
    subst (λ v. HoldsLayerIn self v c.loop-layer.values) found.2 (c.loop-layer.invariant found.0 found.1 (ap (is_solved e) found.2 ∙ solved)))

pub add_layer-requires-clause-layer : goal.add_layer-requires-clause-layer
add_layer-requires-clause-layer c =
    let self = c.args.self.now in
    let order = self.plan.now.order.items in
    let at : ℕ = c.loop-layer.layer-index in
    let within : at < length order = omega (arith, c.loop-layer-test.true, ap length c.deref-layer-items.ensures.value) in
    subst (λ l. get_or l at 0 < layer_count (run_of self).g) (sym c.deref-layer-items.ensures.value) (c.requires.reading.planned.by_score.only_layers at within)

pub loop-layer-preserved : goal.loop-layer-preserved
loop-layer-preserved c =
    let self = c.args.self.now in
    let e = run_of self in
    let order = self.plan.now.order.items in
    let at : ℕ = c.loop-layer.layer-index in
    let within : at < length order = omega (arith, c.loop-layer-test.true, ap length c.deref-layer-items.ensures.value) in
    let adds : AddsLayerIn self (get_or order at 0) c.loop-layer.values c.add_layer.new.values =
    subst (λ l. AddsLayerIn self (get_or l at 0) c.loop-layer.values c.add_layer.new.values) c.deref-layer-items.ensures.value c.add_layer.ensures in
    λ k h solved. elim (cases_eq k at) [
      | inl same ↦
          subst (λ v. HoldsLayerIn self (get_or order v 0) c.add_layer.new.values) (sym same) (adds.added (ap (λ v. is_solved e (get_or order v 0)) (sym same) ∙ solved))
      | inr other ↦
          let early : k < at = omega (arith, h, other) in
          adds.kept (get_or order k 0) (c.requires.reading.planned.by_score.only_layers k (omega (arith, early, within))) solved
          (other_layer e.g e.unknown order c.requires.reading.planned.by_score k at early within) (c.loop-layer.invariant k early solved)
    ]

pub returns : goal.returns
returns c =
    let self = c.args.self.now in
    let e = run_of self in
    λ p hp solved.
    let found = c.requires.reading.planned.by_score.each_layer p hp in
    let here : found.0 < c.loop-layer.layer-index = omega (arith, found.1, c.loop-layer-test.false, ap length c.deref-layer-items.ensures.value) in
    subst (λ v. HoldsLayerIn self v c.loop-layer.values) found.2 (c.loop-layer.invariant found.0 here (ap (is_solved e) found.2 ∙ solved))
