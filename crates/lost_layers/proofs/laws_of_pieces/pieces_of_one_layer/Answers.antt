use Rattle.lost_layers.proofs.CountLaws.{one_layer_count}
use Rattle.lost_layers.proofs.laws_of_pieces.pieces_of_one_layer.Goals as goal

pub returns : goal.returns
returns c = one_layer_count
