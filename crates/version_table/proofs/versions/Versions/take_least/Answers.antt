use Rattle.std.proofs.Common.{◌≡◌, ◌≤◌, ◌∷◌, map, List, All, length, refl, ap, sym, subst, ◌∙◌, arith}
use Rattle.std.proofs.lemmas.List.{length-map}
use Rattle.std.proofs.lemmas.List.Sorted.{IsPermutation-map}
use Rattle.std.specs.List.Sorted.{IsPermutation}
use Rattle.std.specs.BinaryHeap.{heap_items}
use Rattle.store_core.specs.Lists.{change_at}
use Rattle.store_core.specs.Directory.{Version, Standing as CoreStanding}
use Rattle.version_table.specs.Places.{places}
use Rattle.version_table.specs.Table.{Table, version_in, number_in}
use Rattle.version_table.specs.TableSteps.{first_free}
use Rattle.version_table.specs.Told.{Entry, entry_standing}
use Rattle.version_table.specs.Rows.{is_garbage}
use Rattle.version_table.specs.declared.told_versions.Standing.TheVariants as standing
use Rattle.dir_parts.proofs.Entries.{map-change_at, map-change_same}
use Rattle.version_table.proofs.Least.{top_is, top_kept, rest_is, free_is, no_garbage, least_below, First}
use Rattle.version_table.proofs.versions.Versions.take_least.Goals as goal

abbrev change : Entry → Entry
change = entry_standing standing.Taken

pub stand-requires-clause-kept : goal.stand-requires-clause-kept
stand-requires-clause-kept c =
    let least : All (λ y. c.in-Some.field-0.0 ≤ y) (map number_in (heap_items c.pop.new.self)) = least_below c.in-Some.field-0 (heap_items c.pop.new.self) (c.in-Some.ensures.below_top c.self.invariant.heap) in
    let popped : IsPermutation (map number_in (heap_items c.self.inside.garbage)) (c.in-Some.field-0.0 ∷ map number_in (heap_items c.pop.new.self)) = IsPermutation-map number_in _ _ c.in-Some.ensures.permutation in
    top_kept c.self.inside.rows.entries _ _ c.in-Some.field-0.0 c.self.invariant.garbage popped least

pub invariant_of-self : goal.invariant_of-self
invariant_of-self c =
    let least : All (λ y. c.in-Some.field-0.0 ≤ y) (map number_in (heap_items c.pop.new.self)) = least_below c.in-Some.field-0 (heap_items c.pop.new.self) (c.in-Some.ensures.below_top c.self.invariant.heap) in
    let popped : IsPermutation (map number_in (heap_items c.self.inside.garbage)) (c.in-Some.field-0.0 ∷ map number_in (heap_items c.pop.new.self)) = IsPermutation-map number_in _ _ c.in-Some.ensures.permutation in
    record {
      room = omega (arith, c.stand.ensures.unswept, c.in-Some.ensures.capacity, c.self.invariant.room);
      heap = (c.in-Some.ensures.heap_order c.self.invariant.heap).0;
      garbage =
          subst (λ (l : List Entry). IsPermutation (map number_in (heap_items c.pop.new.self)) (places is_garbage 0 l)) (sym c.stand.ensures.entries)
          (rest_is c.self.inside.rows.entries _ _ c.in-Some.field-0.0 c.self.invariant.garbage popped least change (λ e. refl));
    }

pub returns-in-Some-clause-taken : goal.returns-in-Some-clause-taken
returns-in-Some-clause-taken c =
    let least : All (λ y. c.in-Some.field-0.0 ≤ y) (map number_in (heap_items c.pop.new.self)) = least_below c.in-Some.field-0 (heap_items c.pop.new.self) (c.in-Some.ensures.below_top c.self.invariant.heap) in
    let popped : IsPermutation (map number_in (heap_items c.self.inside.garbage)) (c.in-Some.field-0.0 ∷ map number_in (heap_items c.pop.new.self)) = IsPermutation-map number_in _ _ c.in-Some.ensures.permutation in
    sym (First.found (top_is c.self.inside.rows.entries _ _ c.in-Some.field-0.0 c.self.invariant.garbage popped least)) ∙ free_is c.self.inside.rows.entries ∙ ap first_free c.self.view_is

pub returns-in-Some-clause-listed : goal.returns-in-Some-clause-listed
returns-in-Some-clause-listed c =
    ap (map version_in) c.stand.ensures.entries ∙ map-change_at version_in c.in-Some.field-0.0 change (λ (v : Version). record v { standing = CoreStanding.Taken }) c.self.inside.rows.entries (λ x e. refl)
    ∙ ap (λ (t : Table). change_at c.in-Some.field-0.0 (λ (v : Version). record v { standing = CoreStanding.Taken }) t.listed) c.self.view_is

pub returns-in-Some-clause-pins : goal.returns-in-Some-clause-pins
returns-in-Some-clause-pins c =
    ap (map (λ (entry : Entry). entry.pins)) c.stand.ensures.entries ∙ map-change_same (λ (entry : Entry). entry.pins) c.in-Some.field-0.0 change c.self.inside.rows.entries (λ x e. refl)
    ∙ ap (λ (t : Table). t.pins) c.self.view_is

pub returns-in-None-clause-taken : goal.returns-in-None-clause-taken
returns-in-None-clause-taken c =
    let none : length (map number_in (heap_items c.self.inside.garbage)) ≡ 0 = omega (arith, c.in-None.ensures.none, c.self.inside.garbage.data.ok.0, length-map (heap_items c.self.inside.garbage) number_in) in
    no_garbage c.self.inside.rows.entries (map number_in (heap_items c.self.inside.garbage)) c.self.invariant.garbage none ∙ ap first_free c.self.view_is
