use Rattle.std.proofs.Common.{◌≡◌, ℕ, ◌<◌, length, sym, subst, arith}
use Rattle.clay_grid.specs.Shape.{chunk_count}
use Rattle.store_map.specs.declared.placement.LostChunk.{LostChunk}
use Rattle.gathering.specs.declared.position.Position.{Position}
use Rattle.gathering.specs.declared.position.Position.TheVariants as position
use Rattle.gathering.specs.Positions.{IsPlaced}
use Rattle.gathering.proofs.course.Course.layers.Goals as goal

pub repair_layers-requires : goal.repair_layers-requires
repair_layers-requires c =
    let a = c.self.inside in
    let was : IsPlaced a.geometry (length a.first.items) a.count (position.Repair c.in-Repair.server) =
    subst (λ (p : Position). IsPlaced a.geometry (length a.first.items) a.count p) c.in-Repair.is c.self.invariant.is_placed
    in
    subst (λ (lost : LostChunk). lost.server < chunk_count a.geometry) (sym c.index-in-Repair.ensures) (c.self.invariant.missing_below 0 (omega (arith, was.1)) c.index-in-Repair.result.now)
