use Rattle.std.proofs.Common.{◌≡◌, ◌<◌, true, Some, sym, subst}
use Rattle.clay_grid.specs.Shape.{chunk_count}
use Rattle.gathering.specs.Courses.{server_of, is_fetch, layers_asked}
use Rattle.gathering.specs.Gathers.{GatherOf}
use Rattle.gathering.specs.Parts.{IsPart}
use Rattle.gathering.proofs.Gathered.{after_wanted}
use Rattle.gathering.proofs.gather.Gather.hear_wanted.Goals as goal

pub invariant_of-self : goal.invariant_of-self
invariant_of-self c =
    let a = c.self.inside in
    let was = sym c.self.view_is in
    after_wanted a.stamp a.course c.told_given.new.self a.wanted.items a.helpers.items c.self.invariant c.args.server 0 c.args.bytes
    (subst (λ (w : GatherOf). is_fetch w.course.stage ≡ true) was c.requires.fetch)
    (subst (λ (w : GatherOf). server_of w.course ≡ Some c.args.server) was c.requires.asked)
    (subst (λ (w : GatherOf). c.args.server < chunk_count w.course.geometry) was c.requires.below)
    (subst (λ (w : GatherOf). IsPart w.course.geometry w.stamp.content c.args.server (layers_asked w.course) c.args.bytes.items) was c.requires.own)
    (c.told_given.ensures 0)
