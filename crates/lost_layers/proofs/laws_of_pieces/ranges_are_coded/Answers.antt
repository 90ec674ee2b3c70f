use Rattle.lost_layers.proofs.RangeLaws.{ranges_are_coded}
use Rattle.lost_layers.proofs.laws_of_pieces.ranges_are_coded.Goals as goal

pub returns : goal.returns
returns c = ranges_are_coded
