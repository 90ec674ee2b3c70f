use Rattle.std.proofs.Common.{None}
use Rattle.lane_repair.proofs.view.piece_laid.Goals as goal

pub piece_from-requires : goal.piece_from-requires
piece_from-requires c = c.requires.room c.args.c None c.requires.number

pub returns : goal.returns
returns c = c.piece_from.ensures
