use Rattle.std.proofs.Common.{◌≡◌, ◌<◌, true, false, length, get_or, sym, ap, ◌∙◌, arith, bit_xor}
use Rattle.std.proofs.lemmas.List.{get_or_read}
use Rattle.clay_field.specs.Field.{product}
use Rattle.code_laws.proofs.Vertices.{lower_score, alone_value, paired_value, value_from_partner}
use Rattle.clay_decode.proofs.plain_layers.uncouple_node.Goals as goal

pub solved_piece-requires-clause-holds : goal.solved_piece-requires-clause-holds
solved_piece-requires-clause-holds c =
    let g = c.args.g in
    let p = c.partner_of-partner.result in
    let erased = c.args.plan.now.erased.items in
    let within : p.node < length erased = omega (arith, c.partner_of-partner.ensures.in_grid, c.requires.plan.nodes) in
    let gone : get_or erased p.node false ≡ true = sym (get_or_read erased p.node c.index.result.now within c.index.ensures false) ∙ c.if-index.true in
    c.requires.lower p.layer c.partner_of-partner.ensures.in_layers
    (lower_score g c.args.node c.args.z p.node p.layer c.partner_of-partner.ensures.partners erased c.requires.there gone)

pub returns-then-partner-node : goal.returns-then-partner-node
returns-then-partner-node c =
    let g = c.args.g in
    let p = c.partner_of-partner.result in
    record {
      at = λ word fits b h.
          ap (λ l. get_or l b 0) c.copy_from_slice.ensures.after
          ∙ c.piece-own.ensures.value.at word fits b h
          ∙ alone_value g c.args.node c.args.z p.node p.layer c.partner_of-partner.ensures.partners word fits.codeword b c.if-partner-node.true;
    }

pub returns-then-index : goal.returns-then-index
returns-then-index c =
    let g = c.args.g in
    let p = c.partner_of-partner.result in
    record {
      at = λ word fits b h.
          let long : b < length c.uncouple_from.new.out = omega arith in
          c.uncouple_from.ensures b long
          ∙ (λ k. bit_xor (product 5 (c.piece-own.ensures.value.at word fits b h k)) (product 2 (c.solved_piece.ensures.value.at word fits b h k)))
          ∙ sym (value_from_partner g c.args.node c.args.z p.node p.layer c.partner_of-partner.ensures.partners word fits.codeword b c.if-partner-node.false);
    }

pub returns-else-index : goal.returns-else-index
returns-else-index c =
    let g = c.args.g in
    let p = c.partner_of-partner.result in
    record {
      at = λ word fits b h.
          let long : b < length c.uncouple.new.out = omega arith in
          c.uncouple.ensures b long
          ∙ (λ k. bit_xor (c.piece-own.ensures.value.at word fits b h k) (product 2 (c.piece.ensures.value.at word fits b h k)))
          ∙ sym (paired_value g c.args.node c.args.z p.node p.layer c.partner_of-partner.ensures.partners word fits.codeword b c.if-partner-node.false);
    }
