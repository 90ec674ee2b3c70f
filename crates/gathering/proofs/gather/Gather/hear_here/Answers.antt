use Rattle.std.proofs.Common.{sym, subst}
use Rattle.gathering.specs.Courses.{IsAskingStage}
use Rattle.gathering.specs.Gathers.{GatherOf}
use Rattle.gathering.proofs.Gathered.{after_here}
use Rattle.gathering.proofs.gather.Gather.hear_here.Goals as goal

pub invariant_of-self : goal.invariant_of-self
invariant_of-self c =
    let a = c.self.inside in
    after_here a.stamp a.course c.told_here.new.self a.wanted.items a.helpers.items c.self.invariant
    (subst (λ (w : GatherOf). IsAskingStage w.course.stage) (sym c.self.view_is) c.requires) c.told_here.ensures
