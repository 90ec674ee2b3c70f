use Rattle.std.proofs.Common.{◌≡◌, ◌<◌, ℕ, List, map, take, All, sym, ap, subst, ◌∙◌}
use Rattle.clay_grid.specs.Shape.{chunk_count}
use Rattle.store_map.specs.declared.placement.LostChunk.{LostChunk}
use Rattle.gathering.specs.Courses.{CourseOf}
use Rattle.gathering.proofs.MissingOnes.{servers_in, first_below}
use Rattle.gathering.proofs.course.Course.missing.Goals as goal

pub returns-clause-servers : goal.returns-clause-servers
returns-clause-servers c =
    let a = c.self.inside in
    ap (λ (l : List LostChunk). map (λ (lost : LostChunk). lost.server) (take a.count l)) c.deref.ensures.value
    ∙ servers_in (take a.count a.missing.items)
    ∙ c.self.invariant.knows.servers
    ∙ ap (λ (w : CourseOf). w.gone) c.self.view_is

pub returns-clause-below : goal.returns-clause-below
returns-clause-below c =
    let a = c.self.inside in
    subst (λ (w : CourseOf). All (λ (lost : LostChunk). lost.server < chunk_count w.geometry) (take a.count c.deref.result.now)) c.self.view_is
    (subst (λ (l : List LostChunk). All (λ (lost : LostChunk). lost.server < chunk_count a.geometry) (take a.count l)) (sym c.deref.ensures.value)
    (first_below (chunk_count a.geometry) a.count a.missing.items c.self.invariant.missing_below))
