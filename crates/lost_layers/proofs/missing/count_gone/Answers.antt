use Rattle.std.proofs.Common.{◌≡◌, ℕ, ◌≤◌, Bool, cond, ap, ◌∙◌, arith}
use Rattle.std.specs.Int.{from_bool}
use Rattle.clay_grid.proofs.ScoreLaws.{from_bool-cond, one_at_most}
use Rattle.lost_layers.proofs.PieceSteps.{counted_step}
use Rattle.lost_layers.specs.Without.{is_gone}
use Rattle.lost_layers.proofs.missing.count_gone.Goals as goal

pub loop-node-preserved : goal.loop-node-preserved
loop-node-preserved c =
    let test : ℕ → Bool = is_gone c.args.g c.args.run c.args.present.now in
    let n : ℕ = c.loop-node.node in
    let last : c.from-count.result ≡ cond (test n) 1 0 = c.from-count.ensures ∙ ap from_bool c.is_gone.ensures ∙ from_bool-cond (test n) in
    let one : c.from-count.result ≤ 1 = one_at_most (test n) c.from-count.result last in
    let before = c.loop-node.invariant in
    (counted_step test n c.loop-node.count c.from-count.result before.0 last, omega (arith, one, before.1))
