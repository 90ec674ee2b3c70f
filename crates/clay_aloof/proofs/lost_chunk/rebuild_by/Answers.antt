use Rattle.lane_repair.specs.Views.{pieces_of}
use Rattle.clay_aloof.proofs.Coded.{pieces_are_coded}
use Rattle.clay_aloof.proofs.lost_chunk.rebuild_by.Goals as goal

pub returns-clause-rebuilt : goal.returns-clause-rebuilt
returns-clause-rebuilt c =
    let found = pieces_are_coded c.args.g c.args.lost (pieces_of c.args.parts) c.grid.ensures.geometry c.requires.parts c.are_bytes.ensures in
    let is = c.write_lost.ensures in
    record { word = found.0; has_parts = found.1; value = is.value found.0 found.1; only = is.value }
