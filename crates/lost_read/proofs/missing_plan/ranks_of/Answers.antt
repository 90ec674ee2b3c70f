use Rattle.std.proofs.Common.{◌≡◌, ℕ, ◌+◌, ◌≤◌, Bool, cond, refl, ap, ◌∙◌, arith}
use Rattle.std.specs.Int.{from_bool}
use Rattle.clay_grid.proofs.ScoreLaws.{from_bool-cond, one_at_most}
use Rattle.lost_layers.proofs.PieceSteps.{counted_step}
use Rattle.lost_layers.specs.ErasedLayers.{is_solved}
use Rattle.lost_layers.specs.ErasedRuns.{solved_of}
use Rattle.lost_read.specs.MissingPlan.{rank}
use Rattle.lost_read.proofs.MissingReadLaws.{first_rank, next_rank}
use Rattle.lost_read.proofs.missing_plan.ranks_of.Goals as goal

pub loop-layer-init : goal.loop-layer-init
loop-layer-init c = (first_rank (solved_of c.args.run.now) c.in_ok-ranks.ranks.items c.in_ok-ranks.ensures, refl, omega arith)

pub loop-layer-preserved : goal.loop-layer-preserved
loop-layer-preserved c =
    let e = solved_of c.args.run.now in
    let test : ℕ → Bool = is_solved e in
    let n : ℕ = c.loop-layer.layer in
    let last : c.from-count.result ≡ cond (test n) 1 0 = c.from-count.ensures ∙ ap from_bool c.is_solved.ensures ∙ from_bool-cond (test n) in
    let one : c.from-count.result ≤ 1 = one_at_most (test n) c.from-count.result last in
    let before = c.loop-layer.invariant in
    let count : c.loop-layer.count + c.from-count.result ≡ rank e (n + 1) = counted_step test n c.loop-layer.count c.from-count.result before.1 last in
    (next_rank e n (c.loop-layer.count + c.from-count.result) c.loop-layer.ranks.items _ c.in_ok-push.ensures.items count before.0, count, omega (arith, one, before.2))
