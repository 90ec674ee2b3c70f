use Rattle.std.proofs.Common.{◌≡◌, ◌<◌, None, nat_eq, All, take, drop, length, refl, ap, sym, subst, ◌∙◌}
use Rattle.std.specs.List.{IsDistinct}
use Rattle.store_core.specs.Lookups.{find_object}
use Rattle.store_core.specs.Commit.{put_object}
use Rattle.dir_parts.specs.Parts.{Shelf, object_or_new, written_by, written_object}
use Rattle.dir_parts.proofs.Naming.{none_is}
use Rattle.dir_parts.proofs.ShelfSteps.{births-changed, written-there, replaced-there, unfound, written-anew, replaced-anew}
use Rattle.dir_parts.proofs.objects.Objects.write.Goals as goal

pub invariant_of-self : goal.invariant_of-self
invariant_of-self c =
    let births = births-changed c.args.name c.self.inside.listed.entries c.self.invariant.names c.in-Some.at (sym c.in-Some.ensures.index) c.in-Some.ensures.value c.in-Some.ensures.found
    c.write_at.new.listed.entries (written_by c.args.end c.args.first c.args.drawn.items) (λ was. refl) c.write_at.ensures.entries in
    record {
      names = c.write_at.ensures.unique c.self.invariant.names;
      births = subst (IsDistinct nat_eq) (sym births) c.self.invariant.births;
      later = subst (All (λ b. b < c.self.inside.births)) (sym births) c.self.invariant.later;
    }

pub returns-in-Some-clause-objects : goal.returns-in-Some-clause-objects
returns-in-Some-clause-objects c =
    written-there c.args.name c.self.inside.listed.entries c.self.invariant.names c.in-Some.at (sym c.in-Some.ensures.index) c.in-Some.ensures.value c.in-Some.ensures.found
    c.args.end c.args.first c.args.drawn.items c.write_at.new.listed.entries c.write_at.ensures.entries
    ∙ ap (λ (s : Shelf). put_object (written_object c.args.end c.args.first c.args.drawn.items (object_or_new c.args.name s.objects)) s.objects) c.self.view_is

pub returns-in-Some-clause-replaced : goal.returns-in-Some-clause-replaced
returns-in-Some-clause-replaced c =
    replaced-there c.args.name c.self.inside.listed.entries c.self.invariant.names c.in-Some.at (sym c.in-Some.ensures.index) c.in-Some.ensures.value c.in-Some.ensures.found
    c.args.end c.args.first c.args.drawn.items c.write_at.result.items c.write_at.ensures.replaced
    ∙ ap (λ (s : Shelf). take (length c.args.drawn.items) (drop c.args.first (object_or_new c.args.name s.objects).versions)) c.self.view_is

pub add-requires-clause-new : goal.add-requires-clause-new
add-requires-clause-new c =
    ap (λ (s : Shelf). find_object c.args.name s.objects) (sym c.self.view_is)
    ∙ unfound c.args.name c.self.inside.listed.entries c.self.invariant.names (none_is _ (sym c.in_default.ensures.found))

pub returns-clause-objects : goal.returns-clause-objects
returns-clause-objects c =
    let none : find_object c.args.name c.args.self.now.objects ≡ None =
    ap (λ (s : Shelf). find_object c.args.name s.objects) (sym c.self.view_is)
    ∙ unfound c.args.name c.self.inside.listed.entries c.self.invariant.names (none_is _ (sym c.in_default.ensures.found)) in
    c.add.ensures.objects ∙ written-anew c.args.name c.args.self.now.objects none c.args.end c.args.first c.args.drawn.items

pub returns-clause-replaced : goal.returns-clause-replaced
returns-clause-replaced c =
    let none : find_object c.args.name c.args.self.now.objects ≡ None =
    ap (λ (s : Shelf). find_object c.args.name s.objects) (sym c.self.view_is)
    ∙ unfound c.args.name c.self.inside.listed.entries c.self.invariant.names (none_is _ (sym c.in_default.ensures.found)) in
    c.new.ensures.items ∙ replaced-anew c.args.name c.args.self.now.objects none c.args.end c.args.first c.args.drawn.items
