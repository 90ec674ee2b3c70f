use Rattle.std.proofs.Common.{◌≡◌, ◌<◌, None, nat_eq, All, refl, ap, sym, subst, ◌∙◌}
use Rattle.std.specs.List.{IsDistinct}
use Rattle.store_core.specs.Lookups.{find_object}
use Rattle.store_core.specs.Commit.{put_object}
use Rattle.dir_parts.specs.Parts.{Shelf, object_or_new}
use Rattle.dir_parts.proofs.Naming.{none_is}
use Rattle.dir_parts.proofs.ShelfSteps.{shelf-changed, births-changed, replaced-whole, unfound, replaced-none}
use Rattle.dir_parts.proofs.objects.Objects.put.Goals as goal

pub invariant_of-self : goal.invariant_of-self
invariant_of-self c =
    let births = births-changed c.args.name c.self.inside.listed.entries c.self.invariant.names c.in-Some.at (sym c.in-Some.ensures.index) c.in-Some.ensures.value c.in-Some.ensures.found
    c.put_at.new.listed.entries (λ was. record { length = c.args.length; versions = c.args.versions.items; birth = was.birth }) (λ was. refl) c.put_at.ensures.entries in
    record {
      names = c.put_at.ensures.unique c.self.invariant.names;
      births = subst (IsDistinct nat_eq) (sym births) c.self.invariant.births;
      later = subst (All (λ b. b < c.self.inside.births)) (sym births) c.self.invariant.later;
    }

pub returns-in-Some-clause-objects : goal.returns-in-Some-clause-objects
returns-in-Some-clause-objects c =
    shelf-changed c.args.name c.self.inside.listed.entries c.self.invariant.names c.in-Some.at (sym c.in-Some.ensures.index) c.in-Some.ensures.value c.in-Some.ensures.found
    c.put_at.new.listed.entries (λ was. record { length = c.args.length; versions = c.args.versions.items; birth = was.birth }) (λ was. refl) c.put_at.ensures.entries
    ∙ ap (λ (s : Shelf). put_object (record { name = c.args.name; length = c.args.length; versions = c.args.versions.items }) s.objects) c.self.view_is

pub returns-in-Some-clause-replaced : goal.returns-in-Some-clause-replaced
returns-in-Some-clause-replaced c =
    replaced-whole c.args.name c.self.inside.listed.entries c.self.invariant.names c.in-Some.at (sym c.in-Some.ensures.index) c.in-Some.ensures.value c.in-Some.ensures.found
    c.put_at.result.items c.put_at.ensures.replaced
    ∙ ap (λ (s : Shelf). (object_or_new c.args.name s.objects).versions) c.self.view_is

pub add-requires-clause-new : goal.add-requires-clause-new
add-requires-clause-new c =
    ap (λ (s : Shelf). find_object c.args.name s.objects) (sym c.self.view_is)
    ∙ unfound c.args.name c.self.inside.listed.entries c.self.invariant.names (none_is _ (sym c.in_default.ensures.found))

pub returns-clause-replaced : goal.returns-clause-replaced
returns-clause-replaced c =
    let none : find_object c.args.name c.args.self.now.objects ≡ None =
    ap (λ (s : Shelf). find_object c.args.name s.objects) (sym c.self.view_is)
    ∙ unfound c.args.name c.self.inside.listed.entries c.self.invariant.names (none_is _ (sym c.in_default.ensures.found)) in
    c.new.ensures.items ∙ replaced-none c.args.name c.args.self.now.objects none
