use Rattle.std.proofs.Common.{◌≡◌, ◌<◌, false, length, get_or, sym, ap, ◌∙◌, arith, bit_xor}
use Rattle.std.proofs.lemmas.List.{get_or_read}
use Rattle.clay_field.specs.Field.{product, quotient}
use Rattle.clay_aloof.proofs.Vertices.{alone_value, coupled_from_pair, coupled_from_partner}
use Rattle.clay_aloof.proofs.aloof_chunks.couple_piece.Goals as goal

pub returns-then-partner-node : goal.returns-then-partner-node
returns-then-partner-node c =
    let p = c.partner_of-partner.result in
    record {
      at = λ code fits b h.
          ap (λ l. get_or l b 0) c.copy_from_slice.ensures.after
          ∙ c.solved_piece-own.ensures.value.at code fits b h
          ∙ sym (alone_value c.args.g c.args.node c.args.z p.node p.layer c.partner_of-partner.ensures.partners code fits.bytes b c.if-partner-node.true);
    }

pub returns-then-index : goal.returns-then-index
returns-then-index c =
    let g = c.args.g in
    let p = c.partner_of-partner.result in
    record {
      at = λ code fits b h.
          let long : b < length c.couple.new.out = omega arith in
          c.couple.ensures b long
          ∙ (λ k. quotient (bit_xor (c.solved_piece-own.ensures.value.at code fits b h k) (product 2 (c.solved_piece.ensures.value.at code fits b h k))) 5)
          ∙ sym (coupled_from_pair g c.args.node c.args.z p.node p.layer c.partner_of-partner.ensures.partners code fits.bytes b c.if-partner-node.false);
    }

pub returns-else-index : goal.returns-else-index
returns-else-index c =
    let g = c.args.g in
    let p = c.partner_of-partner.result in
    let erased = c.args.plan.now.erased.items in
    let within : p.node < length erased = omega (arith, c.partner_of-partner.ensures.in_grid, c.requires.plan.nodes) in
    let there : get_or erased p.node false ≡ false = sym (get_or_read erased p.node c.index.result.now within c.index.ensures false) ∙ c.if-index.false in
    record {
      at = λ code fits b h.
          let long : b < length c.uncouple.new.out = omega arith in
          c.uncouple.ensures b long
          ∙ (λ k. bit_xor (c.solved_piece-own.ensures.value.at code fits b h k)
          (product 2 ((c.piece.ensures.bytes b h ∙ fits.agrees p.node p.layer b c.partner_of-partner.ensures.in_grid there (c.requires.all p.layer c.partner_of-partner.ensures.in_layers) h) k)))
          ∙ sym (coupled_from_partner g c.args.node c.args.z p.node p.layer c.partner_of-partner.ensures.partners code fits.bytes b c.if-partner-node.false);
    }
