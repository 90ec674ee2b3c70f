use Rattle.std.proofs.Common.{◌<◌, length, get_or, sym, ap, ◌∙◌, arith, bit_xor}
use Rattle.clay_field.specs.Field.{product}
use Rattle.clay_grid.specs.Shape.{row_count}
use Rattle.code_laws.proofs.Vertices.{alone_value, paired_value}
use Rattle.code_laws.proofs.Column.{partner_outside}
use Rattle.clay_repair.proofs.plain_lost.uncouple_node.Goals as goal

pub piece-requires-clause-other : goal.piece-requires-clause-other
piece-requires-clause-other c =
    let g = c.args.g in
    let rows : 0 < row_count g = omega (arith, c.requires.plan.geometry.limits.parity_chunks.0) in
    partner_outside g c.args.node c.args.z c.partner_of-partner.result.node c.args.plan.now.lost rows c.requires.node c.partner_of-partner.ensures.partners.node_is
    (λ e. c.requires.column (e ∙ sym c.requires.plan.column))

pub returns-then-partner-node : goal.returns-then-partner-node
returns-then-partner-node c =
    let g = c.args.g in
    let p = c.partner_of-partner.result in
    record {
      at = λ word fits b h.
          ap (λ l. get_or l b 0) c.copy_from_slice.ensures.after
          ∙ c.piece-own.ensures.value.at word fits b h
          ∙ alone_value g c.args.node c.args.z p.node p.layer c.partner_of-partner.ensures.partners word fits.codeword b c.if-partner-node.true;
    }

pub returns-else-partner-node : goal.returns-else-partner-node
returns-else-partner-node c =
    let g = c.args.g in
    let p = c.partner_of-partner.result in
    record {
      at = λ word fits b h.
          let long : b < length c.uncouple.new.out = omega arith in
          c.uncouple.ensures b long
          ∙ (λ k. bit_xor (c.piece-own.ensures.value.at word fits b h k) (product 2 (c.piece.ensures.value.at word fits b h k)))
          ∙ sym (paired_value g c.args.node c.args.z p.node p.layer c.partner_of-partner.ensures.partners word fits.codeword b c.if-partner-node.false);
    }
