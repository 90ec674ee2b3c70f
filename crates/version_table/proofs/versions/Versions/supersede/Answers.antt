use Rattle.std.proofs.Common.{◌<◌, ℕ, length, map, List, ap, refl, ◌∙◌, arith}
use Rattle.std.proofs.lemmas.List.{length-map}
use Rattle.std.specs.BinaryHeap.{heap_items}
use Rattle.store_core.specs.Lists.{change_at}
use Rattle.store_core.specs.Directory.{Version, Standing as CoreStanding}
use Rattle.version_table.specs.Told.{Entry, entry_standing}
use Rattle.version_table.specs.Rows.{unswept_count}
use Rattle.version_table.specs.Table.{Table, version_in, number_in}
use Rattle.version_table.specs.Known.{is_known}
use Rattle.version_table.specs.declared.told_versions.Standing.TheVariants as standing
use Rattle.dir_parts.proofs.Entries.{map-change_at, map-change_same}
use Rattle.version_table.proofs.TableSteps.{kept_same, kept_more, room_left, known_kept, marked_stays}
use Rattle.version_table.proofs.versions.Versions.supersede.Goals as goal

pub stand-requires-clause-kept : goal.stand-requires-clause-kept
stand-requires-clause-kept c = known_kept c.self.inside.rows.entries c.args.number ∙ ap (λ (t : Table). is_known t.listed c.args.number) c.self.view_is ∙ c.requires

pub push_reserved-requires : goal.push_reserved-requires
push_reserved-requires c =
    let held : List ℕ = map number_in (heap_items c.self.inside.garbage) in
    let room : length held < unswept_count c.stand.new.self.entries =
    room_left (entry_standing standing.Superseded) c.self.inside.rows.entries c.stand.new.self.entries c.args.number c.stand.ensures.entries c.stand.result c.stand.ensures.turned held c.self.invariant.garbage marked_stays c.if-stand.true
    in
    omega (arith, room, length-map (heap_items c.self.inside.garbage) number_in, c.stand.ensures.unswept, c.self.invariant.room, c.self.inside.garbage.data.ok.0)

pub invariant_of-self : goal.invariant_of-self
invariant_of-self c =
    let held : List ℕ = map number_in (heap_items c.self.inside.garbage) in
    record {
      room = omega (arith, c.stand.ensures.unswept, c.push_reserved.ensures.capacity, c.self.invariant.room);
      heap = c.push_reserved.ensures.order c.self.invariant.heap;
      garbage =
          kept_more (entry_standing standing.Superseded) c.self.inside.rows.entries c.stand.new.self.entries c.args.number c.stand.ensures.entries c.stand.result c.stand.ensures.turned held c.self.invariant.garbage marked_stays c.if-stand.true
          _ c.push_reserved.ensures.items;
    }

pub invariant_of-self-else-stand : goal.invariant_of-self-else-stand
invariant_of-self-else-stand c =
    let held : List ℕ = map number_in (heap_items c.self.inside.garbage) in
    record {
      room = omega (arith, c.stand.ensures.unswept, c.self.invariant.room);
      heap = c.self.invariant.heap;
      garbage = kept_same (entry_standing standing.Superseded) c.self.inside.rows.entries c.stand.new.self.entries c.args.number c.stand.ensures.entries c.stand.result c.stand.ensures.turned held c.self.invariant.garbage c.if-stand.false;
    }

pub returns-then-stand-clause-listed : goal.returns-then-stand-clause-listed
returns-then-stand-clause-listed c = ap (map version_in) c.stand.ensures.entries ∙ map-change_at version_in c.args.number (entry_standing standing.Superseded) (λ (v : Version). record v { standing = CoreStanding.Superseded }) c.self.inside.rows.entries (λ x e. refl)
    ∙ ap (λ (t : Table). change_at c.args.number (λ (v : Version). record v { standing = CoreStanding.Superseded }) t.listed) c.self.view_is

pub returns-then-stand-clause-pins : goal.returns-then-stand-clause-pins
returns-then-stand-clause-pins c = ap (map (λ (entry : Entry). entry.pins)) c.stand.ensures.entries ∙ map-change_same (λ (entry : Entry). entry.pins) c.args.number (entry_standing standing.Superseded) c.self.inside.rows.entries (λ x e. refl) ∙ ap (λ (t : Table). t.pins) c.self.view_is

pub returns-else-stand-clause-listed : goal.returns-else-stand-clause-listed
returns-else-stand-clause-listed c = ap (map version_in) c.stand.ensures.entries ∙ map-change_at version_in c.args.number (entry_standing standing.Superseded) (λ (v : Version). record v { standing = CoreStanding.Superseded }) c.self.inside.rows.entries (λ x e. refl)
    ∙ ap (λ (t : Table). change_at c.args.number (λ (v : Version). record v { standing = CoreStanding.Superseded }) t.listed) c.self.view_is

pub returns-else-stand-clause-pins : goal.returns-else-stand-clause-pins
returns-else-stand-clause-pins c = ap (map (λ (entry : Entry). entry.pins)) c.stand.ensures.entries ∙ map-change_same (λ (entry : Entry). entry.pins) c.args.number (entry_standing standing.Superseded) c.self.inside.rows.entries (λ x e. refl) ∙ ap (λ (t : Table). t.pins) c.self.view_is
