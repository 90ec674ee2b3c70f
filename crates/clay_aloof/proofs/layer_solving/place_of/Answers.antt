use Rattle.std.proofs.Common.{◌<◌, length, ◌∙◌, arith}
use Rattle.std.proofs.lemmas.List.{get_or_default}
use Rattle.clay_aloof.proofs.layer_solving.place_of.Goals as goal

pub unreachable-requires : goal.unreachable-requires
unreachable-requires c =
    let found = c.requires in
    let within : found.0 < length c.args.points.now = found.1 in
    let place : found.0 < c.loop-place.place = omega arith in
    c.loop-place.invariant found.0 place (get_or_default c.args.points.now found.0 0 c.args.node within ∙ found.2)
