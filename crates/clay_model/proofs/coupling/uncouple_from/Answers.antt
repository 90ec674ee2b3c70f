use Rattle.std.proofs.Common.{arith, bit_xor, get_or}
use Rattle.clay_field.specs.Field.{product}
use Rattle.clay_model.proofs.Written.{written_more}
use Rattle.clay_model.proofs.coupling.uncouple_from.Goals as goal

pub loop-i-preserved : goal.loop-i-preserved
loop-i-preserved c =
    written_more (λ k. bit_xor (product 5 (get_or c.args.own_c.now k 0)) (product 2 (get_or c.args.partner_u.now k 0))) c.loop-i.out c.loop-i.i _ (omega (arith, c.loop-i-test.true, c.loop-i.auto.out)) c.loop-i.invariant
    (λ j. bit_xor (c.five_times.ensures j) (c.twice.ensures j))
