use Rattle.std.proofs.Common.{◌≡◌, ◌<◌, ◌^◌, sym, ◌∙◌, arith}
use Rattle.std.proofs.lemmas.Fmt.{decimal_injective}
use Rattle.clay_words.proofs.numbers_of_words.number_of.Goals as goal
use Rattle.clay_words.proofs.numbers_of_words.number_of.Goals.{else-number-least-via-then-number-least+else-number-most, else-number-least-via-else-number-least}

pub returns-else-number-least-clause-none : goal.returns-else-number-least-clause-none
returns-else-number-least-clause-none c = λ n low high e.
    let small = c.in_ok-number.ensures.range in
    let below : n < 2 ^ 32 = omega (arith, high, c.ranges.most.fits) in
    let is : c.in_ok-number.number ≡ n =
    decimal_injective c.in_ok-number.number n (omega (arith, small)) (omega (arith, below)) (sym c.in_ok-number.ensures.found ∙ c.as_bytes.ensures.value ∙ e) in
    elim c.else-number-least.branch [
      | else-number-least-via-then-number-least+else-number-most w ↦ omega (arith, is, high, w.if-number-most.false)
      | else-number-least-via-else-number-least w ↦ omega (arith, is, low, w.if-number-least.false)
    ]
