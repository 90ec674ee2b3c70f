use Rattle.std.proofs.Common.{sym, ◌∙◌}
use Rattle.lost_layers.proofs.PieceSteps.{partner_serves, partner_layer_is}
use Rattle.lost_layers.proofs.placed.PlacedRun.is_piece.Goals as goal

pub returns-else-is_made : goal.returns-else-is_made
returns-else-is_made c =
    let g = c.args.self.now.g in
    let p = c.partner_of.result in
    partner_serves g c.args.self.now.run c.args.node c.args.layer p.node p.layer c.serves.result (λ e. c.if-node-self.false (e ∙ sym c.requires.placed.node))
    (sym c.is_made.ensures ∙ c.if-is_made.false) c.partner_of.ensures.partners.node_is
    (partner_layer_is g c.args.node c.args.layer p.node p.layer c.partner_of.ensures.partners c.partner_of.ensures.in_layers) c.serves.ensures
