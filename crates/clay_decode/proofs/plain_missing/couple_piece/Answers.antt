use Rattle.std.proofs.Common.{◌<◌, length, sym, ◌∙◌, arith, bit_xor}
use Rattle.clay_field.specs.Field.{product, quotient}
use Rattle.code_laws.proofs.Vertices.{coupled_from_pair, coupled_from_partner}
use Rattle.clay_decode.proofs.plain_missing.couple_piece.Goals as goal

pub returns-then-index : goal.returns-then-index
returns-then-index c =
    let g = c.args.g in
    let p = c.partner_of-partner.result in
    record {
      at = λ word fits b h.
          let long : b < length c.couple.new.out = omega arith in
          c.couple.ensures b long
          ∙ (λ k. quotient (bit_xor (c.solved_piece-own.ensures.value.at word fits b h k) (product 2 (c.solved_piece.ensures.value.at word fits b h k))) 5)
          ∙ sym (coupled_from_pair g c.args.node c.args.z p.node p.layer c.partner_of-partner.ensures.partners word fits.codeword b c.if-partner-node.false);
    }

pub returns-else-index : goal.returns-else-index
returns-else-index c =
    let g = c.args.g in
    let p = c.partner_of-partner.result in
    record {
      at = λ word fits b h.
          let long : b < length c.uncouple.new.out = omega arith in
          c.uncouple.ensures b long
          ∙ (λ k. bit_xor (c.solved_piece-own.ensures.value.at word fits b h k) (product 2 (c.piece.ensures.value.at word fits b h k)))
          ∙ sym (coupled_from_partner g c.args.node c.args.z p.node p.layer c.partner_of-partner.ensures.partners word fits.codeword b c.if-partner-node.false);
    }
