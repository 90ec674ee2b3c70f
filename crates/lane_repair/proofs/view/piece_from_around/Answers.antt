use Rattle.std.proofs.Common.{Some, sym, ap, ◌∙◌}
use Rattle.std.specs.Option.{option_map}
use Rattle.lane_repair.specs.Views.{piece_around}
use Rattle.lane_repair.proofs.view.piece_from_around.Goals as goal

pub returns-in-Some : goal.returns-in-Some
returns-in-Some c = ap (option_map (piece_around c.args.before.now c.args.after.now c.args.len)) c.in-Some.is ∙ ap Some (sym c.piece_past.ensures)
