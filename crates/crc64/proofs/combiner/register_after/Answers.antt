use Rattle.std.proofs.Common.{◌≡◌, ◌%◌, sym, ap, ◌∙◌, arith}
use Rattle.crc64.specs.Remainder.{remainder}
use Rattle.crc64.proofs.Division.{remainder_zero}
use Rattle.crc64.proofs.Combined.{register_step}
use Rattle.crc64.proofs.combiner.register_after.Goals as goal

pub loop-place-init : goal.loop-place-init
loop-place-init c = λ zeros have.
    let none : c.args.start % 1 ≡ 0 = omega arith in
    sym (ap (remainder zeros) none ∙ remainder_zero zeros)

pub loop-place-preserved : goal.loop-place-preserved
loop-place-preserved c = λ zeros have.
    register_step c.args.registers.now zeros c.loop-place.place c.args.start c.loop-place.sum have (omega (arith, c.loop-place-test.true))
    (c.loop-place.invariant zeros have)
