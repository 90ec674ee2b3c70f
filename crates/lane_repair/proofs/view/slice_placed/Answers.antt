use Rattle.std.proofs.Common.{None}
use Rattle.lane_repair.proofs.view.slice_placed.Goals as goal

pub slice_from-requires : goal.slice_from-requires
slice_from-requires c = c.requires.room c.args.c None c.requires.number

pub returns : goal.returns
returns c = c.slice_from.ensures
