use Rattle.clay_model.proofs.LayerNumbers.{HasZeroSums-numbers, index_of-partner}
use Rattle.clay_model.proofs.laws_of_codewords.layers_are_numbered.Goals as goal

pub returns-clause-sums : goal.returns-clause-sums
returns-clause-sums c = HasZeroSums-numbers

pub returns-clause-partner : goal.returns-clause-partner
returns-clause-partner c = index_of-partner
