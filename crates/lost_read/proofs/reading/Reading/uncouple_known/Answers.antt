use Rattle.std.proofs.Common.{◌<◌, true, length, get_or, sym, ap, ◌∙◌, arith, bit_xor}
use Rattle.clay_field.specs.Field.{product}
use Rattle.code_laws.proofs.Vertices.{alone_value, paired_value}
use Rattle.lost_layers.proofs.PieceLaws.{some_rows, own_piece, partner_piece}
use Rattle.lost_layers.proofs.PieceSteps.{partner_layer_is}
use Rattle.lost_layers.specs.LostPieces.{is_piece}
use Rattle.lost_read.proofs.reading.Reading.uncouple_known.Goals as goal

pub piece-own-requires-clause-read : goal.piece-own-requires-clause-read
piece-own-requires-clause-read c =
    let placed = c.args.self.now.plan.now.placed in
    own_piece placed.g placed.run c.args.layer c.args.node c.requires.solved c.requires.known

pub piece-requires-clause-read : goal.piece-requires-clause-read
piece-requires-clause-read c =
    let placed = c.args.self.now.plan.now.placed in
    let rows = some_rows placed.g c.requires.reading.planned.placed_is.geometry in
    let p = c.partner_of-partner.result in
    let pair = c.partner_of-partner.ensures.partners in
    (λ k. is_piece placed.g placed.run (pair.node_is k) (partner_layer_is placed.g c.args.node c.args.layer p.node p.layer pair c.partner_of-partner.ensures.in_layers k))
    ∙ partner_piece placed.g placed.run c.args.layer c.args.node rows c.requires.node c.requires.layer c.requires.solved c.requires.known

pub returns-then-partner-node : goal.returns-then-partner-node
returns-then-partner-node c =
    let g = c.args.self.now.plan.now.placed.g in
    let p = c.partner_of-partner.result in
    λ word fits b h.
    ap (λ l. get_or l b 0) c.copy_from_slice.ensures.after
    ∙ c.piece-own.ensures.value word fits b h
    ∙ alone_value g c.args.node c.args.layer p.node p.layer c.partner_of-partner.ensures.partners word fits.codeword b c.if-partner-node.true

pub returns-else-partner-node : goal.returns-else-partner-node
returns-else-partner-node c =
    let g = c.args.self.now.plan.now.placed.g in
    let p = c.partner_of-partner.result in
    λ word fits b h.
    let long : b < length c.uncouple.new.out = omega arith in
    c.uncouple.ensures b long
    ∙ (λ k. bit_xor (c.piece-own.ensures.value word fits b h k) (product 2 (c.piece.ensures.value word fits b h k)))
    ∙ sym (paired_value g c.args.node c.args.layer p.node p.layer c.partner_of-partner.ensures.partners word fits.codeword b c.if-partner-node.false)
