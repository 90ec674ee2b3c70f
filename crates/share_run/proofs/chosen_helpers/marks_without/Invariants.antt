use Rattle.share_run.specs.Helpers.{AreMarked}
use Rattle.share_run.proofs.chosen_helpers.marks_without.Given as goal

abbrev pub invariant-loop-share : goal.invariant-loop-share
invariant-loop-share l = AreMarked l.geometry l.lost l.others l.spare l.share l.left l.marks.items
