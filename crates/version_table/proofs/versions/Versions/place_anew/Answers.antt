use Rattle.std.proofs.Common.{map, ap, refl, ◌∙◌, arith}
use Rattle.store_core.specs.Lists.{change_at}
use Rattle.store_core.specs.Placements.{placed_anew}
use Rattle.store_core.specs.Directory.{Version}
use Rattle.version_table.specs.Told.{Entry, entry_anew}
use Rattle.version_table.specs.Table.{Table, version_in}
use Rattle.dir_parts.proofs.Entries.{map-change_at, map-change_same}
use Rattle.version_table.proofs.TableSteps.{same_garbage}
use Rattle.version_table.proofs.versions.Versions.place_anew.Goals as goal

pub returns-clause-listed : goal.returns-clause-listed
returns-clause-listed c =
    let put : Version → Version = λ v. record v { placed = change_at c.args.server (placed_anew c.args.epoch) v.placed } in
    ap (map version_in) c.place_anew.ensures.entries ∙ map-change_at version_in c.args.number (entry_anew c.args.server c.args.epoch) put c.self.inside.rows.entries (λ x e. refl)
    ∙ ap (λ (t : Table). change_at c.args.number put t.listed) c.self.view_is

pub returns-clause-pins : goal.returns-clause-pins
returns-clause-pins c =
    ap (map (λ (entry : Entry). entry.pins)) c.place_anew.ensures.entries ∙ map-change_same (λ (entry : Entry). entry.pins) c.args.number (entry_anew c.args.server c.args.epoch) c.self.inside.rows.entries (λ x e. refl)
    ∙ ap (λ (t : Table). t.pins) c.self.view_is

pub invariant_of-self : goal.invariant_of-self
invariant_of-self c =
    record {
      room = omega (arith, c.place_anew.ensures.unswept, c.self.invariant.room);
      heap = c.self.invariant.heap;
      garbage = same_garbage (entry_anew c.args.server c.args.epoch) (λ e. refl) c.self.inside.rows.entries c.place_anew.new.self.entries c.args.number c.place_anew.ensures.entries _ c.self.invariant.garbage;
    }
