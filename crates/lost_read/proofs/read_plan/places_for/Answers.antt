use Rattle.std.proofs.Common.{length, sym, subst, ◌∙◌}
use Rattle.std.specs.Prelude.{IfOk}
use Rattle.lost_read.specs.Plan.{AreSubchunks, HasPlaces}
use Rattle.lost_read.proofs.ReadLaws.{are_subchunks}
use Rattle.lost_read.proofs.read_plan.places_for.Goals as goal

pub places_of-requires : goal.places_of-requires
places_of-requires c =
    let placed = c.args.placed.now in
    subst (AreSubchunks placed.g) (sym (c.deref.ensures.value ∙ c.in_ok-pieces.ensures)) (are_subchunks placed.g placed.run)

pub returns-clause-places : goal.returns-clause-places
returns-clause-places c =
    subst (λ l. IfOk c.places_of.result (λ v. HasPlaces c.args.placed.now.g l (length l) v.items)) (c.deref.ensures.value ∙ c.in_ok-pieces.ensures) c.places_of.ensures.places
