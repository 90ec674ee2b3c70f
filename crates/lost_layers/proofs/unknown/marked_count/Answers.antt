use Rattle.std.proofs.Common.{◌≡◌, ℕ, ◌≤◌, Bool, false, cond, get_or, ◌∙◌, arith}
use Rattle.clay_grid.proofs.ScoreLaws.{from_bool-cond, one_at_most}
use Rattle.lost_layers.proofs.PieceSteps.{counted_step}
use Rattle.lost_layers.proofs.unknown.marked_count.Goals as goal

pub loop-mark-preserved : goal.loop-mark-preserved
loop-mark-preserved c =
    let test : ℕ → Bool = λ i. get_or c.args.marks.now i false in
    let n : ℕ = c.loop-mark.mark-index in
    let last : c.from-count.result ≡ cond (test n) 1 0 = c.from-count.ensures ∙ from_bool-cond (test n) in
    let one : c.from-count.result ≤ 1 = one_at_most (test n) c.from-count.result last in
    let before = c.loop-mark.invariant in
    (counted_step test n c.loop-mark.count c.from-count.result before.0 last, omega (arith, one, before.1))
