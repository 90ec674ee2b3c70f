use Rattle.std.proofs.Common.{◌≡◌, ℕ, suc, ◌+◌, length, get_or, sym, ap, ◌∙◌, arith, bit_xor}
use Rattle.std.proofs.lemmas.List.{get_or-replicate, length-replicate}
use Rattle.clay_field.specs.Field.{product}
use Rattle.clay_field.proofs.FieldLaws.{one_product}
use Rattle.generator_matrix.specs.Distances.{product_below, distance}
use Rattle.generator_matrix.proofs.DistanceLaws.{more_own, scaled_more}
use Rattle.generator_matrix.proofs.factors.scaled_distances.Goals as goal
use Rattle.generator_matrix.proofs.factors.scaled_distances.Goals.{then-i-own, else-i-own}

pub loop-i-init : goal.loop-i-init
loop-i-init c = (
  length-replicate {A = ℕ} 16 c.args.scale,
  λ k h. get_or-replicate 16 k c.args.scale 0 h ∙ sym (one_product c.args.scale c.ranges.scale.fits),
)

pub loop-i-preserved : goal.loop-i-preserved
loop-i-preserved c =
    let points = c.args.points.now in
    let own = c.args.own in
    let i = c.loop-i.i in
    let more : suc i ≡ i + 1 = omega arith in
    let before = c.loop-i.invariant in
    elim c.if-i-own.branch [
      | then-i-own w ↦ (
        ap length w.products-is ∙ w.times_distances.array_long,
        λ k h.
            ap (λ l. get_or l k 0) w.products-is ∙ w.times_distances.ensures k h
            ∙ ap (λ v. product v (bit_xor (get_or c.args.nodes k 0) (get_or points i 0))) (before.1 k h)
            ∙ scaled_more points own (get_or c.args.nodes k 0) i c.args.scale w.if-i-own.true
            ∙ ap (λ n. product (product_below n (distance points own (get_or c.args.nodes k 0))) c.args.scale) more,
      )
      | else-i-own w ↦ (
        ap length w.products-is ∙ before.0,
        λ k h.
            ap (λ l. get_or l k 0) w.products-is ∙ before.1 k h
            ∙ ap (λ p. product p c.args.scale) (sym (more_own points own (get_or c.args.nodes k 0) i w.if-i-own.false))
            ∙ ap (λ n. product (product_below n (distance points own (get_or c.args.nodes k 0))) c.args.scale) more,
      )
    ]
