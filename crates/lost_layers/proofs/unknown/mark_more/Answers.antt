use Rattle.std.proofs.Common.{ℕ, Bool, sym, ◌∙◌}
use Rattle.lost_layers.specs.Unknown.{is_chosen}
use Rattle.lost_layers.proofs.Marking.{marked_more, marked_same}
use Rattle.lost_layers.proofs.unknown.mark_more.Goals as goal
use Rattle.lost_layers.proofs.unknown.mark_more.Goals.{then-is_chosen, else-is_chosen}

pub loop-node-preserved : goal.loop-node-preserved
loop-node-preserved c =
    let placed = c.args.placed.now in
    let test : ℕ → Bool = is_chosen placed.g placed.run c.args.missing.now c.args.choice in
    elim c.if-is_chosen.branch [
      | then-is_chosen w ↦
          w.marks-is
          ∙ w.mark.ensures
          ∙ marked_more placed.g test c.args.marks.now c.loop-node.marks c.loop-node.node c.loop-node.invariant (sym c.is_chosen.ensures ∙ w.if-is_chosen.true)
      | else-is_chosen w ↦
          w.marks-is
          ∙ marked_same placed.g test c.args.marks.now c.loop-node.marks c.loop-node.node c.loop-node.invariant (sym c.is_chosen.ensures ∙ w.if-is_chosen.false)
    ]
