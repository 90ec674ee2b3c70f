use Rattle.std.proofs.Common.{◌≡◌, ◌≤◌, true, length, sym, subst}
use Rattle.clay_grid.specs.Shape.{Shape}
use Rattle.clay_grid.specs.Limits.{IsGeometry}
use Rattle.clay_model.specs.Chunks.{contents}
use Rattle.clay_model.specs.Left.{AreLeft, AreRecovered}
use Rattle.gathering.specs.Courses.{has_bytes}
use Rattle.gathering.specs.Parts.{Shelf}
use Rattle.gathering.specs.Made.{AreMade}
use Rattle.gathering.specs.Gathers.{GatherOf}
use Rattle.gathering.proofs.Serving.{left_of_many, made_of_many, if_ok}
use Rattle.gathering.proofs.gather.Gather.recover.Goals as goal

pub recover-requires-clause-left : goal.recover-requires-clause-left
recover-requires-clause-left g c =
    let a = c.self.inside in
    let was = sym c.self.view_is in
    subst (λ (l : Shelf). AreLeft c.geometry-geometry.result l) (sym c.deref.ensures.value)
    (subst (λ (s : Shape). AreLeft s a.helpers.items) (sym c.geometry-geometry.ensures)
    (left_of_many a.stamp a.course a.wanted.items a.helpers.items c.self.invariant
    (subst (λ (w : GatherOf). has_bytes w.course.stage ≡ true) was c.requires.parts)
    (subst IsGeometry c.geometry-geometry.ensures c.n-servers.ensures.geometry)
    (subst (λ (w : GatherOf). 2 ≤ length w.course.gone) was c.requires.many)))

pub returns : goal.returns
returns g c =
    let a = c.self.inside in
    let was = sym c.self.view_is in
    if_ok c.shelved.result c.shelved.ensures
    (λ made is. subst (λ (w : GatherOf). AreMade w.course.geometry w.stamp.content w.course.gone made.items) c.self.view_is
    (made_of_many a.stamp a.course a.wanted.items a.helpers.items c.self.invariant
    (subst (λ (w : GatherOf). has_bytes w.course.stage ≡ true) was c.requires.parts)
    (subst IsGeometry c.geometry-geometry.ensures c.n-servers.ensures.geometry)
    (subst (λ (w : GatherOf). 2 ≤ length w.course.gone) was c.requires.many)
    c.in_ok-chunks.chunks.items made.items
    (subst (λ (s : Shape). AreRecovered s a.helpers.items (contents c.in_ok-chunks.chunks.items)) c.geometry-geometry.ensures
    (subst (λ (l : Shelf). AreRecovered c.geometry-geometry.result l (contents c.in_ok-chunks.chunks.items)) c.deref.ensures.value c.in_ok-chunks.ensures))
    is))
