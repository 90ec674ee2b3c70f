use Rattle.run_laws.proofs.LengthProofs.{lengths_are_the_map}
use Rattle.run_laws.proofs.laws_of_lengths.lengths_are_the_map.Goals as goal

pub returns : goal.returns
returns c = lengths_are_the_map
