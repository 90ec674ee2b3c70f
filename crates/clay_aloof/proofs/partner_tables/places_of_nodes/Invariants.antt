use Rattle.clay_aloof.specs.Partners.{HoldsPlaces}
use Rattle.clay_aloof.proofs.partner_tables.places_of_nodes.Given as goal

abbrev pub invariant-loop-node : goal.invariant-loop-node
invariant-loop-node l = HoldsPlaces l.g l.node l.places.items
