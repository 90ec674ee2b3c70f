use Rattle.std.proofs.Common.{subst}
use Rattle.write_course.specs.WritingSteps.{IsDoing}
use Rattle.write_course.specs.Inside.{prepared_in, settled_in, due_by}
use Rattle.write_course.proofs.Kept.{is_doing}
use Rattle.write_course.proofs.writing.Writing.doing.Goals as goal

pub returns : goal.returns
returns c =
    let a = c.self.inside in
    subst (IsDoing a.doing) c.self.view_is (is_doing a.doing a.opening a.first a.stamps.items (prepared_in a) (settled_in a) (due_by a.doing a.work))
