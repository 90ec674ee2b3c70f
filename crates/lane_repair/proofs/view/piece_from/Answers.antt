use Rattle.std.proofs.Common.{◌+◌, slice_range, ap}
use Rattle.std.specs.Option.{option_map}
use Rattle.lane_repair.proofs.view.piece_from.Goals as goal

pub returns-in-Some : goal.returns-in-Some
returns-in-Some c = ap (option_map (λ at. slice_range c.args.bytes.now at (at + c.args.len))) c.in-Some.is
