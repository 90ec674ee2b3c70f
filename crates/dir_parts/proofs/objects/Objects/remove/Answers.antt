use Rattle.std.proofs.Common.{ℕ, ◌<◌, map, nat_eq, All, option_map, ap, sym, subst, ◌∙◌}
use Rattle.std.specs.List.{IsDistinct}
use Rattle.store_core.specs.Look.{remove_object}
use Rattle.store_core.specs.Lookups.{find_object}
use Rattle.dir_parts.specs.Parts.{Shelf, object_of}
use Rattle.dir_parts.specs.Shelf.{object_in, birth_of, by_birth}
use Rattle.dir_parts.proofs.Births.{births_left, later_left}
use Rattle.dir_parts.proofs.ShelfSteps.{shelf-found, shelf-removed}
use Rattle.dir_parts.proofs.objects.Objects.remove.Goals as goal

pub invariant_of-self : goal.invariant_of-self
invariant_of-self c =
    let old : ℕ → Type 0 = λ b. b < c.self.inside.births in
    record {
      names = c.swap_remove.ensures.unique;
      births = subst (λ es. IsDistinct nat_eq (map birth_of es)) (sym c.swap_remove.ensures.entries) (births_left c.args.name.now c.self.inside.listed.entries c.self.invariant.births);
      later = subst (λ es. All old (map birth_of es)) (sym c.swap_remove.ensures.entries) (later_left c.args.name.now old c.self.inside.listed.entries c.self.invariant.later);
    }

pub returns-clause-objects : goal.returns-clause-objects
returns-clause-objects c =
    ap (λ l. map object_in (by_birth l)) c.swap_remove.ensures.entries ∙ shelf-removed c.args.name.now c.self.inside.listed.entries c.self.invariant.births c.self.invariant.names
    ∙ ap (λ (s : Shelf). remove_object c.args.name.now s.objects) c.self.view_is

pub returns-clause-removed : goal.returns-clause-removed
returns-clause-removed c =
    ap (option_map (object_of c.args.name.now)) c.swap_remove.ensures.value ∙ sym (shelf-found c.args.name.now c.self.inside.listed.entries c.self.invariant.names)
    ∙ ap (λ (s : Shelf). find_object c.args.name.now s.objects) c.self.view_is
