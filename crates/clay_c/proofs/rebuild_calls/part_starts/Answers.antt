use Rattle.std.proofs.Common.{◌*◌, eqb, cond, Some, None, ap, ◌∙◌}
use Rattle.clay_c.specs.Calls.{place_among_others}
use Rattle.clay_c.proofs.Shown.{starts_more}
use Rattle.clay_c.proofs.rebuild_calls.part_starts.Goals as goal

pub loop-c-preserved : goal.loop-c-preserved
loop-c-preserved c =
    c.in_ok-push.ensures.items
    ∙ starts_more (λ k. cond (eqb k c.args.lost) None (Some (place_among_others c.args.lost k * c.args.len))) c.loop-c.starts.items c.piece_start.result c.loop-c.c
    (c.piece_start.ensures ∙ ap (λ p. cond (eqb c.loop-c.c c.args.lost) None (Some (p * c.args.len))) c.place_among_others-place.ensures.value) c.loop-c.invariant
