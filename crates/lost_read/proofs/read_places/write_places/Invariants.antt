use Rattle.lost_read.specs.Plan.{HasPlaces}
use Rattle.lost_read.proofs.read_places.write_places.Given as goal

abbrev pub invariant-loop-at : goal.invariant-loop-at
invariant-loop-at l = HasPlaces l.g l.pieces l.at l.places
