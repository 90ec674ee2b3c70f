use Rattle.std.proofs.Common.{Bool, List, refl, sym, subst, ◌+◌}
use Rattle.share_run.specs.Helpers.{AreMarked}
use Rattle.share_run.proofs.HelperLemmas.{marked_more}
use Rattle.share_run.proofs.chosen_helpers.marks_without.Goals as goal

pub loop-share-preserved : goal.loop-share-preserved
loop-share-preserved c =
    let P : List Bool → Type 0 = λ l. AreMarked c.args.geometry c.args.lost c.args.others.now c.args.spare (c.loop-share.share + 1) c.next_mark-mark.result.left l in
    subst P (sym c.in_ok-push.ensures.items)
    (marked_more c.args.geometry c.args.lost c.args.others.now c.args.spare c.loop-share.share c.loop-share.left c.loop-share.marks.items
    _ c.is_beside-beside.result c.next_mark-mark.result.helps c.next_mark-mark.result.left c.loop-share.invariant refl c.is_beside-beside.ensures c.next_mark-mark.ensures)
