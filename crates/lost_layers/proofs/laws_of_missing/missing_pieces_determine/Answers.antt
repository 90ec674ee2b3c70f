use Rattle.lost_layers.proofs.ErasedDetermining.{pieces_determine}
use Rattle.lost_layers.proofs.laws_of_missing.missing_pieces_determine.Goals as goal

pub returns : goal.returns
returns c = pieces_determine
