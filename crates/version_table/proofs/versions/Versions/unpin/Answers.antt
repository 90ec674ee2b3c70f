use Rattle.std.proofs.Common.{◌<◌, ◌-◌, ℕ, length, map, List, ap, refl, ◌∙◌, arith}
use Rattle.std.proofs.lemmas.List.{length-map}
use Rattle.std.specs.BinaryHeap.{heap_items}
use Rattle.store_core.specs.Lists.{change_at}
use Rattle.version_table.specs.Told.{Entry, entry_unpinned}
use Rattle.version_table.specs.Rows.{unswept_count}
use Rattle.version_table.specs.Table.{Table, version_in, number_in}
use Rattle.dir_parts.proofs.Entries.{map-change_at, map-change_same}
use Rattle.version_table.proofs.TableSteps.{kept_same, kept_more, room_left, unpinned_stays}
use Rattle.version_table.proofs.versions.Versions.unpin.Goals as goal

pub push_reserved-requires : goal.push_reserved-requires
push_reserved-requires c =
    let held : List ℕ = map number_in (heap_items c.self.inside.garbage) in
    let room : length held < unswept_count c.unpin.new.self.entries =
    room_left entry_unpinned c.self.inside.rows.entries c.unpin.new.self.entries c.args.number c.unpin.ensures.entries c.unpin.result c.unpin.ensures.turned held c.self.invariant.garbage unpinned_stays c.if-unpin.true
    in
    omega (arith, room, length-map (heap_items c.self.inside.garbage) number_in, c.unpin.ensures.unswept, c.self.invariant.room, c.self.inside.garbage.data.ok.0)

pub invariant_of-self : goal.invariant_of-self
invariant_of-self c =
    let held : List ℕ = map number_in (heap_items c.self.inside.garbage) in
    record {
      room = omega (arith, c.unpin.ensures.unswept, c.push_reserved.ensures.capacity, c.self.invariant.room);
      heap = c.push_reserved.ensures.order c.self.invariant.heap;
      garbage =
          kept_more entry_unpinned c.self.inside.rows.entries c.unpin.new.self.entries c.args.number c.unpin.ensures.entries c.unpin.result c.unpin.ensures.turned held c.self.invariant.garbage unpinned_stays c.if-unpin.true
          _ c.push_reserved.ensures.items;
    }

pub invariant_of-self-else-unpin : goal.invariant_of-self-else-unpin
invariant_of-self-else-unpin c =
    let held : List ℕ = map number_in (heap_items c.self.inside.garbage) in
    record {
      room = omega (arith, c.unpin.ensures.unswept, c.self.invariant.room);
      heap = c.self.invariant.heap;
      garbage = kept_same entry_unpinned c.self.inside.rows.entries c.unpin.new.self.entries c.args.number c.unpin.ensures.entries c.unpin.result c.unpin.ensures.turned held c.self.invariant.garbage c.if-unpin.false;
    }

pub returns-then-unpin-clause-listed : goal.returns-then-unpin-clause-listed
returns-then-unpin-clause-listed c = ap (map version_in) c.unpin.ensures.entries ∙ map-change_same version_in c.args.number entry_unpinned c.self.inside.rows.entries (λ x e. refl) ∙ ap (λ (t : Table). t.listed) c.self.view_is

pub returns-then-unpin-clause-pins : goal.returns-then-unpin-clause-pins
returns-then-unpin-clause-pins c = ap (map (λ (entry : Entry). entry.pins)) c.unpin.ensures.entries ∙ map-change_at (λ (entry : Entry). entry.pins) c.args.number entry_unpinned (λ (n : ℕ). n - 1) c.self.inside.rows.entries (λ x e. refl)
    ∙ ap (λ (t : Table). change_at c.args.number (λ (n : ℕ). n - 1) t.pins) c.self.view_is

pub returns-else-unpin-clause-listed : goal.returns-else-unpin-clause-listed
returns-else-unpin-clause-listed c = ap (map version_in) c.unpin.ensures.entries ∙ map-change_same version_in c.args.number entry_unpinned c.self.inside.rows.entries (λ x e. refl) ∙ ap (λ (t : Table). t.listed) c.self.view_is

pub returns-else-unpin-clause-pins : goal.returns-else-unpin-clause-pins
returns-else-unpin-clause-pins c = ap (map (λ (entry : Entry). entry.pins)) c.unpin.ensures.entries ∙ map-change_at (λ (entry : Entry). entry.pins) c.args.number entry_unpinned (λ (n : ℕ). n - 1) c.self.inside.rows.entries (λ x e. refl)
    ∙ ap (λ (t : Table). change_at c.args.number (λ (n : ℕ). n - 1) t.pins) c.self.view_is
