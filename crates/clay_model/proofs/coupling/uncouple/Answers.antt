use Rattle.std.proofs.Common.{ap, arith, bit_xor, get_or}
use Rattle.clay_field.specs.Field.{product}
use Rattle.clay_model.proofs.Written.{written_more}
use Rattle.clay_model.proofs.coupling.uncouple.Goals as goal

pub loop-i-preserved : goal.loop-i-preserved
loop-i-preserved c =
    written_more (λ k. bit_xor (get_or c.args.own.now k 0) (product 2 (get_or c.args.partner.now k 0))) c.loop-i.out c.loop-i.i _ (omega (arith, c.loop-i-test.true, c.loop-i.auto.out)) c.loop-i.invariant
    (ap (bit_xor (get_or c.args.own.now c.loop-i.i 0)) c.twice.ensures)
