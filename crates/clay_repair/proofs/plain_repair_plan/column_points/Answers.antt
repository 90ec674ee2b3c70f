use Rattle.std.proofs.Common.{◌+◌, ◌*◌, [], ◌∷◌, ◌++◌, sym, ◌∙◌}
use Rattle.clay_grid.specs.Shape.{row_count}
use Rattle.clay_grid.proofs.Rising.{range_with_len_more}
use Rattle.clay_repair.proofs.plain_repair_plan.column_points.Goals as goal

pub loop-x-preserved : goal.loop-x-preserved
loop-x-preserved c =
    c.in_ok-push.ensures.items
    ∙ (λ k. c.loop-x.invariant k ++ (c.args.column * c.q-in-loop-x.ensures.value k + c.loop-x.x) ∷ [])
    ∙ sym (range_with_len_more (c.args.column * row_count c.args.g) c.loop-x.x)
