use Rattle.std.proofs.Common.{◌++◌, ◌∷◌, [], sym, ◌∙◌, arith}
use Rattle.std.proofs.lemmas.List.FromFn.{map-range_with_len_more}
use Rattle.clay_grid.specs.Score.{score_at}
use Rattle.clay_grid.proofs.geometry.Geometry.scores.Goals as goal

pub loop-z-preserved : goal.loop-z-preserved
loop-z-preserved c =
    c.in_ok-push.ensures.items
    ∙ (λ i. c.loop-z.invariant i ++ c.score.ensures.value i ∷ [])
    ∙ sym (map-range_with_len_more (score_at c.args.self.now c.args.erased.now) 0 c.loop-z.z c.loop-z.z (omega arith))
