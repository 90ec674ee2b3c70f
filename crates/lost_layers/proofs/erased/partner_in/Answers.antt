use Rattle.lost_layers.proofs.PieceSteps.{partner_layer_is}
use Rattle.lost_layers.proofs.erased.partner_in.Goals as goal

pub returns-clause-layer : goal.returns-clause-layer
returns-clause-layer c =
    let partner = c.partner_of.result in
    partner_layer_is c.args.g c.args.node c.args.layer partner.node partner.layer c.partner_of.ensures.partners c.partner_of.ensures.in_layers
