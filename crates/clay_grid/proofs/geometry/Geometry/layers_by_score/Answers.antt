use Rattle.std.proofs.Common.{◌≡◌, ◌+◌, ◌<◌, ◌++◌, length, subst, sym, ap, ◌∙◌, arith}
use Rattle.std.proofs.lemmas.List.FromFn.{length-map-range_with_len}
use Rattle.clay_grid.specs.Shape.{row_count, layer_count}
use Rattle.clay_grid.specs.Score.{score_at, places_of}
use Rattle.clay_grid.proofs.ByScore.{IsBelowScore, IsBelowScore-more, IsByScore-all}
use Rattle.clay_grid.proofs.geometry.Geometry.layers_by_score.Goals as goal

pub push_places-requires : goal.push_places-requires
push_places-requires c =
    let long : length c.deref.result.now ≡ layer_count c.args.self.now =
    ap length (c.deref.ensures.value ∙ c.in_ok-scores.ensures) ∙ length-map-range_with_len (score_at c.args.self.now c.args.erased.now) 0 (layer_count c.args.self.now) in
    omega (arith, c.t-score-end.ensures.geometry.limits.layers)

pub loop-score-preserved : goal.loop-score-preserved
loop-score-preserved c =
    let pushed = c.in_ok-push_places.ensures ∙ ap (λ s. c.loop-score.layers.items ++ places_of s c.loop-score.score) (c.deref.ensures.value ∙ c.in_ok-scores.ensures) in
    subst (IsBelowScore c.args.self.now c.args.erased.now (c.loop-score.score + 1)) (sym pushed)
    (IsBelowScore-more c.args.self.now c.args.erased.now c.loop-score.score c.loop-score.layers.items c.loop-score.invariant)

pub returns : goal.returns
returns c =
    let rows : 0 < row_count c.args.self.now = omega (arith, c.t-score-end.ensures.geometry.limits.parity_chunks.0) in
    IsByScore-all c.args.self.now c.args.erased.now c.loop-score.score c.loop-score.layers.items rows (omega (arith, c.loop-score-test.false, c.t-score-end.ensures.value)) c.loop-score.invariant
