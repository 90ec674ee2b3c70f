use Rattle.std.proofs.Common.{◌≡◌, ◌+◌, ◌<◌, None, map, nat_eq, bytes_eq, All, ap, sym, subst, ◌∙◌}
use Rattle.std.specs.List.{IsDistinct}
use Rattle.std.specs.Map.{lookup}
use Rattle.store_core.specs.Lookups.{find_object}
use Rattle.store_core.specs.Commit.{put_object}
use Rattle.dir_parts.specs.Parts.{Held, Shelf, object_of}
use Rattle.dir_parts.specs.Shelf.{object_in, birth_of, by_birth}
use Rattle.dir_parts.proofs.Births.{births_with, later_with}
use Rattle.dir_parts.proofs.ShelfSteps.{unfound-entry, shelf-added}
use Rattle.dir_parts.proofs.objects.Objects.add.Goals as goal

pub invariant_of-self : goal.invariant_of-self
invariant_of-self c =
    let held : Held = record { length = c.args.length; versions = c.args.versions.items; birth = c.self.inside.births } in
    let none : lookup (bytes_eq c.args.name) c.self.inside.listed.entries ≡ None =
    unfound-entry c.args.name c.self.inside.listed.entries c.self.invariant.names (ap (λ (s : Shelf). find_object c.args.name s.objects) c.self.view_is ∙ c.requires.new) in
    record {
      names = c.insert_reserved.ensures.unique;
      births =
          subst (λ es. IsDistinct nat_eq (map birth_of es)) (sym c.insert_reserved.ensures.entries)
          (births_with c.args.name held c.self.inside.listed.entries none c.self.invariant.later c.self.invariant.births);
      later =
          subst (λ es. All (λ b. b < c.self.inside.births + 1) (map birth_of es)) (sym c.insert_reserved.ensures.entries)
          (later_with c.args.name held c.self.inside.listed.entries none c.self.invariant.later);
    }

pub returns-clause-objects : goal.returns-clause-objects
returns-clause-objects c =
    let held : Held = record { length = c.args.length; versions = c.args.versions.items; birth = c.self.inside.births } in
    let none : lookup (bytes_eq c.args.name) c.self.inside.listed.entries ≡ None =
    unfound-entry c.args.name c.self.inside.listed.entries c.self.invariant.names (ap (λ (s : Shelf). find_object c.args.name s.objects) c.self.view_is ∙ c.requires.new) in
    ap (λ l. map object_in (by_birth l)) c.insert_reserved.ensures.entries ∙ shelf-added c.args.name held c.self.inside.listed.entries none c.self.invariant.later
    ∙ ap (λ (s : Shelf). put_object (object_of c.args.name held) s.objects) c.self.view_is
