use Rattle.std.proofs.Common.{List, arith}
use Rattle.clay_model.specs.Left.{Completes}
use Rattle.clay_lanes.proofs.Recovery.{every_layer}
use Rattle.clay_par.proofs.scores.solve_by_scores.Goals as goal

pub returns : goal.returns
returns g c =
    let plan = c.args.plan.now in
    every_layer c.args.g (λ word. Completes c.args.g c.args.have.now word) c.args.at c.args.len plan.erased.items plan.points.items plan.layers.items c.loop-from.solved c.requires.plan.nodes.order
    (λ k h. c.loop-from.invariant.first k (omega (arith, h, c.loop-from-test.false, c.len.ensures, plan.layers.ok.0)))
