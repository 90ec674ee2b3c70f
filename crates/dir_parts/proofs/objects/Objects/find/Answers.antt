use Rattle.std.proofs.Common.{ap, sym, ◌∙◌}
use Rattle.store_core.specs.Lookups.{find_object}
use Rattle.dir_parts.specs.Parts.{Shelf, object_of}
use Rattle.dir_parts.proofs.ShelfSteps.{shelf-found}
use Rattle.dir_parts.proofs.Options.{copied_map}
use Rattle.dir_parts.proofs.objects.Objects.find.Goals as goal

pub returns : goal.returns
returns c =
    copied_map (object_of c.args.name.now) c.get.result _ c.get.ensures.value ∙ sym (shelf-found c.args.name.now c.self.inside.listed.entries c.self.invariant.names)
    ∙ ap (λ (s : Shelf). find_object c.args.name.now s.objects) c.self.view_is
