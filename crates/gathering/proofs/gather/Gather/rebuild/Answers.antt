use Rattle.std.proofs.Common.{◌≡◌, ◌<◌, true, [], ◌∷◌, Some, set, sym, ap, subst, ◌∙◌}
use Rattle.clay_grid.specs.Shape.{Shape, chunk_count}
use Rattle.clay_grid.specs.Limits.{IsGeometry}
use Rattle.clay_model.specs.RepairParts.{AreParts, IsRebuilt}
use Rattle.gathering.specs.Courses.{has_bytes}
use Rattle.gathering.specs.Parts.{Shelf}
use Rattle.gathering.specs.Made.{AreMade}
use Rattle.gathering.specs.Gathers.{GatherOf}
use Rattle.gathering.proofs.Serving.{parts_of_one, made_of_one}
use Rattle.gathering.proofs.gather.Gather.rebuild.Goals as goal

pub rebuild-requires-clause-parts : goal.rebuild-requires-clause-parts
rebuild-requires-clause-parts g c =
    let a = c.self.inside in
    let was = sym c.self.view_is in
    subst (λ (l : Shelf). AreParts c.geometry-geometry.result c.args.lost l) (sym c.deref.ensures.value)
    (subst (λ (s : Shape). AreParts s c.args.lost a.helpers.items) (sym c.geometry-geometry.ensures)
    (parts_of_one a.stamp a.course a.wanted.items a.helpers.items c.self.invariant
    (subst (λ (w : GatherOf). has_bytes w.course.stage ≡ true) was c.requires.parts)
    (subst IsGeometry c.geometry-geometry.ensures c.n-servers.ensures.geometry)
    c.args.lost
    (subst (λ (w : GatherOf). w.course.gone ≡ c.args.lost ∷ []) was c.requires.only)
    (subst (λ (w : GatherOf). c.args.lost < chunk_count w.course.geometry) was c.requires.below)))

pub returns : goal.returns
returns g c =
    let a = c.self.inside in
    let was = sym c.self.view_is in
    subst (λ (w : GatherOf). AreMade w.course.geometry w.stamp.content w.course.gone (set c.in_ok-made.made.items c.args.lost (Some c.in_ok-chunk.chunk))) c.self.view_is
    (made_of_one a.stamp a.course a.wanted.items a.helpers.items c.self.invariant
    (subst (λ (w : GatherOf). has_bytes w.course.stage ≡ true) was c.requires.parts)
    (subst IsGeometry c.geometry-geometry.ensures c.n-servers.ensures.geometry)
    c.args.lost
    (subst (λ (w : GatherOf). w.course.gone ≡ c.args.lost ∷ []) was c.requires.only)
    (subst (λ (w : GatherOf). c.args.lost < chunk_count w.course.geometry) was c.requires.below)
    c.n-servers.result c.in_ok-chunk.chunk c.in_ok-made.made.items
    (subst (λ (s : Shape). IsRebuilt s c.args.lost a.helpers.items c.in_ok-chunk.chunk.items) c.geometry-geometry.ensures
    (subst (λ (l : Shelf). IsRebuilt c.geometry-geometry.result c.args.lost l c.in_ok-chunk.chunk.items) c.deref.ensures.value c.in_ok-chunk.ensures))
    c.in_ok-made.ensures
    (c.n-servers.ensures.value ∙ ap chunk_count c.geometry-geometry.ensures))
