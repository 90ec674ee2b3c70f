use Rattle.lost_layers.proofs.RepairBounds.{within_repair, none_of_lost}
use Rattle.lost_layers.proofs.laws_of_pieces.reads_stay_within_repairs.Goals as goal

pub returns-clause-of_chunk : goal.returns-clause-of_chunk
returns-clause-of_chunk c = within_repair

pub returns-clause-of_lost : goal.returns-clause-of_lost
returns-clause-of_lost c = none_of_lost
