use Rattle.std.proofs.Common.{◌≡◌, ℕ, ◌/◌, ◌^◌, ◌<◌, subst, ap, ◌∙◌, sym, arith, lit<}
use Rattle.clay_field.specs.Field.{product, power_of}
use Rattle.clay_field.proofs.FieldLaws.{product_lt, product_one, one_product, power_of-lt}
use Rattle.clay_field.proofs.PowerLaws.{power_of-bit_zero, power_of-bit_one}
use Rattle.clay_field.proofs.power.Goals as goal
use Rattle.clay_field.proofs.power.Goals.{then-left-eq1, else-left-eq1}

pub loop-left-init : goal.loop-left-init
loop-left-init c = (one_product (power_of c.args.a c.args.e) (power_of-lt c.args.a c.args.e), lit< tt)

pub loop-left-preserved : goal.loop-left-preserved
loop-left-preserved c =
    let rest : ℕ → ℕ = λ d. product d (power_of (product c.loop-left.square c.loop-left.square) (c.loop-left.left / 2)) in
    let squared = ap (λ s. product c.if-left-eq1.done (power_of s (c.loop-left.left / 2))) c.mul-square.ensures in
    let bit : (rest c.if-left-eq1.done ≡ product c.loop-left.done (power_of c.loop-left.square c.loop-left.left)) × (c.if-left-eq1.done < 2 ^ 8) =
    elim c.if-left-eq1.branch [
      | then-left-eq1 w ↦ (
        ap rest (w.done-is ∙ w.mul-done.ensures)
            ∙ power_of-bit_one c.loop-left.done c.loop-left.square c.loop-left.left w.if-left-eq1.true,
        subst (λ d. d < 2 ^ 8) (sym (w.done-is ∙ w.mul-done.ensures)) (product_lt c.loop-left.done c.loop-left.square),
      )
      | else-left-eq1 w ↦ (
        ap rest w.done-is ∙ power_of-bit_zero c.loop-left.done c.loop-left.square c.loop-left.left (omega arith),
        subst (λ d. d < 2 ^ 8) (sym w.done-is) c.loop-left.invariant.1,
      )
    ] in
    (squared ∙ bit.0 ∙ c.loop-left.invariant.0, bit.1)

pub returns : goal.returns
unfolding power_of
returns c =
    let none : 0 ≡ c.loop-left.left = omega arith in
    sym (product_one c.loop-left.done c.loop-left.invariant.1)
    ∙ ap (λ n. product c.loop-left.done (power_of c.loop-left.square n)) none
    ∙ c.loop-left.invariant.0
