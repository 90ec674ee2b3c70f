use Rattle.std.proofs.Common.{ap, ◌∙◌, arith, bit_xor, get_or}
use Rattle.clay_field.specs.Field.{product, quotient}
use Rattle.clay_model.proofs.Written.{written_more}
use Rattle.clay_model.proofs.coupling.couple.Goals as goal

pub loop-i-preserved : goal.loop-i-preserved
loop-i-preserved c =
    written_more (λ k. quotient (bit_xor (get_or c.args.own_u.now k 0) (product 2 (get_or c.args.partner_u.now k 0))) 5) c.loop-i.out c.loop-i.i _ (omega (arith, c.loop-i-test.true, c.loop-i.auto.out)) c.loop-i.invariant
    (c.fifth.ensures ∙ ap (λ t. quotient (bit_xor (get_or c.args.own_u.now c.loop-i.i 0) t) 5) c.twice.ensures)
