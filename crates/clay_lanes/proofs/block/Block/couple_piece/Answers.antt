use Rattle.std.proofs.Common.{◌+◌, ◌<◌, length, get_or, sym, ap, ◌∙◌, arith, bit_xor}
use Rattle.clay_field.specs.Field.{product, quotient}
use Rattle.code_laws.proofs.Vertices.{alone_value, coupled_from_pair, coupled_from_partner}
use Rattle.clay_lanes.proofs.block.Block.couple_piece.Goals as goal

pub returns-then-index : goal.returns-then-index
returns-then-index c =
    let g = c.args.self.now.g in
    let p = c.partner_of-partner.result in
    record {
      bytes = λ word fits b h.
          let long : b < length c.couple.new.out = omega arith in
          c.couple.ensures b long
          ∙ (λ k. quotient (bit_xor (c.solved_piece-own.ensures.value.bytes word fits b h k) (product 2 (c.solved_piece-theirs.ensures.value.bytes word fits b h k))) 5)
          ∙ sym (coupled_from_pair g c.args.node c.args.z p.node p.layer c.partner_of-partner.ensures.partners word fits.codeword (c.args.self.now.at + b) c.if-partner-node.false);
    }

pub returns-else-index : goal.returns-else-index
returns-else-index c =
    let g = c.args.self.now.g in
    let p = c.partner_of-partner.result in
    record {
      bytes = λ word fits b h.
          let long : b < length c.uncouple.new.out = omega arith in
          c.uncouple.ensures b long
          ∙ (λ k. bit_xor (c.solved_piece-own.ensures.value.bytes word fits b h k) (product 2 (c.piece.ensures.value.bytes word fits b h k)))
          ∙ sym (coupled_from_partner g c.args.node c.args.z p.node p.layer c.partner_of-partner.ensures.partners word fits.codeword (c.args.self.now.at + b) c.if-partner-node.false);
    }

pub solved_piece-own-requires-clause-holds : goal.solved_piece-own-requires-clause-holds
solved_piece-own-requires-clause-holds c = c.requires.holds c.args.z c.requires.layer

pub solved_piece-theirs-requires-clause-holds : goal.solved_piece-theirs-requires-clause-holds
solved_piece-theirs-requires-clause-holds c = c.requires.holds c.partner_of-partner.result.layer c.partner_of-partner.ensures.in_layers

pub returns-then-partner-node : goal.returns-then-partner-node
returns-then-partner-node c =
    let g = c.args.self.now.g in
    let p = c.partner_of-partner.result in
    record {
      bytes = λ word fits b h.
          ap (λ l. get_or l b 0) c.copy_from_slice.ensures.after
          ∙ c.solved_piece-own.ensures.value.bytes word fits b h
          ∙ sym (alone_value g c.args.node c.args.z p.node p.layer c.partner_of-partner.ensures.partners word fits.codeword (c.args.self.now.at + b) c.if-partner-node.true);
    }
