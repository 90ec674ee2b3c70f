use Rattle.std.proofs.Common.{◌≡◌, map, List, ap, refl, false, slice_get, ◌∙◌, arith}
use Rattle.store_core.specs.Lookups.{holds_standing, is_superseded_standing}
use Rattle.store_core.specs.Lists.{change_at}
use Rattle.store_core.specs.Directory.{Version, Standing as CoreStanding}
use Rattle.version_table.specs.Told.{Entry, entry_current}
use Rattle.version_table.specs.Table.{Table, version_in}
use Rattle.version_table.specs.Known.{is_known}
use Rattle.dir_parts.proofs.Entries.{map-change_at, map-change_same}
use Rattle.version_table.proofs.TableSteps.{placed_same, known_kept}
use Rattle.version_table.proofs.versions.Versions.make_current.Goals as goal

pub place-requires : goal.place-requires
place-requires c = known_kept c.self.inside.rows.entries c.args.number ∙ ap (λ (t : Table). is_known t.listed c.args.number) c.self.view_is ∙ c.requires.known

pub returns-clause-listed : goal.returns-clause-listed
returns-clause-listed c =
    let put : Version → Version = λ v. record v { placed = c.args.row.items; standing = CoreStanding.Current } in
    ap (map version_in) c.place.ensures.entries ∙ map-change_at version_in c.args.number (entry_current c.args.row.items) put c.self.inside.rows.entries (λ x e. refl) ∙ ap (λ (t : Table). change_at c.args.number put t.listed) c.self.view_is

pub returns-clause-pins : goal.returns-clause-pins
returns-clause-pins c =
    ap (map (λ (entry : Entry). entry.pins)) c.place.ensures.entries ∙ map-change_same (λ (entry : Entry). entry.pins) c.args.number (entry_current c.args.row.items) c.self.inside.rows.entries (λ x e. refl)
    ∙ ap (λ (t : Table). t.pins) c.self.view_is

pub invariant_of-self : goal.invariant_of-self
invariant_of-self c =
    let old : List Entry = c.self.inside.rows.entries in
    let other : holds_standing is_superseded_standing (slice_get (map version_in old) c.args.number) ≡ false = ap (λ (t : Table). holds_standing is_superseded_standing (slice_get t.listed c.args.number)) c.self.view_is ∙ c.requires.other in
    record {
      room = omega (arith, c.place.ensures.unswept, c.self.invariant.room);
      heap = c.self.invariant.heap;
      garbage = placed_same (entry_current c.args.row.items) old c.place.new.self.entries c.args.number c.place.ensures.entries other (λ x. refl) _ c.self.invariant.garbage;
    }
