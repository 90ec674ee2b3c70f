use Rattle.std.proofs.Common.{ℕ, List, Bor, map, refl, ap, ◌∙◌}
use Rattle.clay_c.proofs.PiecesCut.{cut_more}
use Rattle.clay_c.proofs.laid.pieces_in.Goals as goal

pub loop-place-preserved : goal.loop-place-preserved
loop-place-preserved c =
    ap (map (λ (piece : Bor (List ℕ)). piece.now)) c.in_ok-push.ensures.items
    ∙ cut_more c.args.len c.args.bytes.now c.loop-place.place c.loop-place.pieces.items _ c.loop-place.invariant refl
