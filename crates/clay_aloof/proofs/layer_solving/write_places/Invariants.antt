use Rattle.clay_aloof.specs.Solved.{HasPlaces}
use Rattle.clay_aloof.proofs.layer_solving.write_places.Given as goal

abbrev pub invariant-loop-i : goal.invariant-loop-i
invariant-loop-i l = HasPlaces l.layers l.i l.places
