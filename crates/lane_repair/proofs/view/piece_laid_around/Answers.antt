use Rattle.std.proofs.Common.{None}
use Rattle.lane_repair.proofs.view.piece_laid_around.Goals as goal

pub piece_from_around-requires : goal.piece_from_around-requires
piece_from_around-requires c = c.requires.room c.args.c None c.requires.number

pub returns : goal.returns
returns c = c.piece_from_around.ensures
