use Rattle.std.proofs.Common.{◌*◌, false, get_or, cond, Some, None, ap, ◌∙◌}
use Rattle.clay_lanes.proofs.FillLemmas.{starts_more}
use Rattle.clay_lanes.proofs.chunk_filling.chunk_starts.Goals as goal

pub loop-c-preserved : goal.loop-c-preserved
loop-c-preserved c =
    let missing = c.args.missing.now in
    let i = c.loop-c.c in
    c.in_ok-push.ensures.items
    ∙ starts_more c.args.g missing c.loop-c.starts.items c.chunk_start.result i
    (c.chunk_start.ensures ∙ ap (λ n. cond (get_or missing i false) None (Some (i * n))) c.chunk_len-len.ensures.value) c.loop-c.invariant
