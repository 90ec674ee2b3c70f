use Rattle.std.proofs.Common.{◌≡◌, ◌+◌, ◌<◌, ℕ, List, take, sym, ap, subst, ◌∙◌, arith}
use Rattle.clay_grid.specs.Shape.{chunk_count}
use Rattle.store_map.specs.declared.placement.Placement.TheVariants as placement
use Rattle.store_core.specs.Told.{Told}
use Rattle.gathering.specs.Hearing.{IsAsking}
use Rattle.gathering.specs.Courses.{CourseOf, server_of, after_answer}
use Rattle.gathering.proofs.CourseKept.{course_missed, missed_kept, is_asking, there}
use Rattle.gathering.proofs.course.Course.told_missing.Goals as goal

pub returns : goal.returns
returns c =
    let a = c.self.inside in
    let asking : IsAsking a.position = is_asking a c.args.self.now c.self.view_is c.requires in
    let below : c.in-Some.server < chunk_count a.geometry = subst (λ (w : CourseOf). c.in-Some.server < chunk_count w.geometry) (sym c.self.view_is) c.in-Some.ensures.below in
    course_missed a c.in-Some.server c.index-placed.result.now c.args.found c.after_missing-self-inside.result _ _ c.self.invariant
    (omega (arith, c.self.invariant.room asking, c.n.ensures.geometry.limits.data_chunks))
    (ap server_of c.self.view_is ∙ sym c.in-Some.ensures.server)
    (c.index-placed.ensures ∙ there a.placed.items c.in-Some.server c.index-placed.result.now (placement.At 0) (omega (arith, below, c.self.invariant.placed_length)))
    c.deref.ensures.value
    (ap (λ (l : List ℕ). take (a.count + 1) l) c.deref-2.ensures.value)
    c.after_missing-self-inside.ensures.stage
    ∙ ap (λ (w : CourseOf). after_answer w (Told.Missing c.args.found)) c.self.view_is

pub invariant_of-self : goal.invariant_of-self
invariant_of-self c =
    let a = c.self.inside in
    let asking : IsAsking a.position = is_asking a c.args.self.now c.self.view_is c.requires in
    missed_kept a c.in-Some.server c.index-placed.result.now c.args.found c.after_missing-self-inside.result _ _ c.self.invariant
    (subst (λ (w : CourseOf). c.in-Some.server < chunk_count w.geometry) (sym c.self.view_is) c.in-Some.ensures.below)
    (omega (arith, c.self.invariant.room asking, c.n.ensures.geometry.limits.data_chunks))
    c.deref.ensures.value
    (ap (λ (l : List ℕ). take (a.count + 1) l) c.deref-2.ensures.value)
    c.after_missing-self-inside.ensures.room
    c.after_missing-self-inside.ensures.aim
    c.after_missing-self-inside.ensures.placed
