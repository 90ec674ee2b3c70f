use Rattle.std.proofs.Common.{◌+◌, subst, sym}
use Rattle.clay_aloof.specs.Partners.{HoldsPlaces}
use Rattle.clay_aloof.proofs.PartnerTables.{places_more}
use Rattle.clay_aloof.proofs.partner_tables.places_of_nodes.Goals as goal

pub loop-node-preserved : goal.loop-node-preserved
loop-node-preserved c =
    subst (HoldsPlaces c.args.g (c.loop-node.node + 1)) (sym c.in_ok-push.ensures.items)
    (places_more c.args.g c.loop-node.places.items c.place_of.result c.loop-node.node c.loop-node.invariant c.place_of.ensures)
