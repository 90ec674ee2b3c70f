use Rattle.std.proofs.Common.{ℕ, List, [], Bor, Some, map, get_or, sym, ap, ◌∙◌}
use Rattle.std.specs.Option.{option_map}
use Rattle.lane_repair.proofs.view.slice_from.Goals as goal

pub returns-in-Some : goal.returns-in-Some
returns-in-Some c =
    ap (option_map (λ at. get_or (map (λ (piece : Bor (List ℕ)). piece.now) c.args.pieces.now) at [])) c.in-Some.is ∙ ap Some (sym c.slice_at.ensures)
