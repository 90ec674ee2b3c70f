use Rattle.lost_layers.proofs.Determining.{pieces_determine}
use Rattle.lost_layers.proofs.laws_of_pieces.pieces_determine_runs.Goals as goal

pub returns : goal.returns
returns c = pieces_determine
