use Rattle.std.proofs.Common.{◌≡◌, ℕ, suc, ◌+◌, get_or, sym, ap, ◌∙◌, arith, bit_xor}
use Rattle.clay_field.specs.Field.{product}
use Rattle.generator_matrix.specs.Distances.{product_below, distance}
use Rattle.generator_matrix.proofs.DistanceLaws.{more_own, more_other}
use Rattle.generator_matrix.proofs.factors.own_distances.Goals as goal
use Rattle.generator_matrix.proofs.factors.own_distances.Goals.{then-i-own, else-i-own}

pub loop-i-preserved : goal.loop-i-preserved
loop-i-preserved c =
    let points = c.args.points.now in
    let own = c.args.own in
    let x : ℕ = get_or points own 0 in
    let i = c.loop-i.i in
    let more : suc i ≡ i + 1 = omega arith in
    elim c.if-i-own.branch [
      | then-i-own w ↦
          w.product-is ∙ w.mul-product.ensures
          ∙ ap (λ p. product p (bit_xor x (get_or points i 0))) c.loop-i.invariant
          ∙ sym (more_other points own x i w.if-i-own.true)
          ∙ ap (λ n. product_below n (distance points own x)) more
      | else-i-own w ↦
          w.product-is ∙ c.loop-i.invariant
          ∙ sym (more_own points own x i w.if-i-own.false)
          ∙ ap (λ n. product_below n (distance points own x)) more
    ]
