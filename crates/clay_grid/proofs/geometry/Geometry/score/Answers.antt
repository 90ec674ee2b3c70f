use Rattle.std.proofs.Common.{◌≡◌, ℕ, ◌+◌, ◌-◌, ◌*◌, ◌%◌, ◌<◌, ◌≤◌, Bool, false, cond, get_or, sym, ap, ◌∙◌, arith}
use Rattle.std.specs.Int.{from_bool}
use Rattle.clay_grid.specs.Shape.{row_count}
use Rattle.clay_grid.specs.Layers.{layer_of}
use Rattle.clay_grid.proofs.ScoreLaws.{meets_erased, digit_passed, rest_passed, counted_more, from_bool-cond, one_at_most, score_done}
use Rattle.clay_grid.proofs.geometry.Geometry.score.Goals as goal

pub loop-passed-preserved : goal.loop-passed-preserved
loop-passed-preserved c =
    let g = c.args.self.now in
    let n : ℕ = c.t-columns.result in
    let q : ℕ = c.q-q.result in
    let y : ℕ = n - 1 - c.loop-passed.passed in
    let test : ℕ → Bool = meets_erased q c.args.erased.now (layer_of g c.args.z) in
    let digit : c.loop-passed.rest % q ≡ get_or (layer_of g c.args.z) y 0 =
    digit_passed g c.args.z q n c.loop-passed.passed c.loop-passed.rest c.q-q.ensures.value c.t-columns.ensures.value c.loop-passed-test.true c.loop-passed.invariant.rest_is in
    let met : c.from-score.result ≡ cond (test y) 1 0 =
    c.from-score.ensures ∙ ap from_bool (ap (λ d. get_or c.args.erased.now (y * q + d) false) digit) ∙ from_bool-cond (test y) in
    let one : c.from-score.result ≤ 1 = one_at_most (test y) c.from-score.result met in
    record {
      rest_is = rest_passed c.args.z q c.loop-passed.passed c.loop-passed.rest c.loop-passed.invariant.rest_is;
      counted = counted_more n c.loop-passed.passed c.loop-passed.score c.from-score.result _ test c.loop-passed-test.true c.loop-passed.invariant.counted (sym met);
      within = omega (arith, c.loop-passed.invariant.within);
    }

pub returns-clause-value : goal.returns-clause-value
returns-clause-value c =
    let rows : 0 < row_count c.args.self.now = omega (arith, c.q-q.ensures.geometry.limits.parity_chunks.0) in
    score_done c.args.self.now c.args.erased.now c.args.z c.q-q.result c.t-columns.result c.loop-passed.passed c.loop-passed.score
    c.q-q.ensures.value c.t-columns.ensures.value rows c.loop-passed-test.false c.loop-passed.invariant.counted
