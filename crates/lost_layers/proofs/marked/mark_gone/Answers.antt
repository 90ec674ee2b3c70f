use Rattle.std.proofs.Common.{ℕ, Bool, ◌∙◌}
use Rattle.lost_layers.specs.Without.{is_gone}
use Rattle.lost_layers.proofs.Gone.{one_more}
use Rattle.lost_layers.proofs.marked.mark_gone.Goals as goal

pub loop-node-preserved : goal.loop-node-preserved
loop-node-preserved c =
    let test : ℕ → Bool = is_gone c.args.g c.args.run c.args.present.now in
    c.in_ok-push.ensures.items ∙ one_more test c.loop-node.marks.items c.is_gone.result c.loop-node.node c.is_gone.ensures c.loop-node.invariant
