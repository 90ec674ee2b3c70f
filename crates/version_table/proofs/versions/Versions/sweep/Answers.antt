use Rattle.std.proofs.Common.{◌≡◌, ◌&&◌, nat_eq, map, ap, refl, ◌∙◌, arith}
use Rattle.store_core.specs.Lists.{change_at}
use Rattle.store_core.specs.Directory.{Version, Standing as CoreStanding}
use Rattle.store_core.specs.AtDirectory.{swept_standing}
use Rattle.version_table.specs.Told.{Entry, swept, entry_swept}
use Rattle.version_table.specs.Rows.{is_superseded}
use Rattle.version_table.specs.Table.{Table, version_in, standing_in}
use Rattle.version_table.specs.declared.told_versions.Standing.{Standing}
use Rattle.version_table.specs.declared.told_versions.Standing.TheVariants as standing
use Rattle.dir_parts.proofs.Entries.{map-change_at, map-change_same}
use Rattle.version_table.proofs.TableSteps.{same_garbage}
use Rattle.version_table.proofs.versions.Versions.sweep.Goals as goal

swept_same : (s : Standing) → standing_in (swept s) ≡ swept_standing (standing_in s)
swept_same standing.Drawn = refl
swept_same standing.Current = refl
swept_same standing.Superseded = refl
swept_same standing.Taken = refl
swept_same standing.Swept = refl

still : (s : Standing) → is_superseded (swept s) ≡ is_superseded s
still standing.Drawn = refl
still standing.Current = refl
still standing.Superseded = refl
still standing.Taken = refl
still standing.Swept = refl

pub returns-clause-listed : goal.returns-clause-listed
returns-clause-listed c =
    ap (map version_in) c.sweep.ensures.entries
    ∙ map-change_at version_in c.args.number entry_swept (λ (v : Version). record v { standing = swept_standing v.standing }) c.self.inside.rows.entries (λ x e. ap (λ (s : CoreStanding). record (version_in x) { standing = s }) (swept_same x.standing))
    ∙ ap (λ (t : Table). change_at c.args.number (λ (v : Version). record v { standing = swept_standing v.standing }) t.listed) c.self.view_is

pub returns-clause-pins : goal.returns-clause-pins
returns-clause-pins c =
    ap (map (λ (entry : Entry). entry.pins)) c.sweep.ensures.entries ∙ map-change_same (λ (entry : Entry). entry.pins) c.args.number entry_swept c.self.inside.rows.entries (λ x e. refl) ∙ ap (λ (t : Table). t.pins) c.self.view_is

pub invariant_of-self : goal.invariant_of-self
invariant_of-self c =
    record {
      room = omega (arith, c.sweep.ensures.unswept, c.self.invariant.room);
      heap = c.self.invariant.heap;
      garbage = same_garbage entry_swept (λ e. ap (λ b. b && nat_eq e.pins 0) (still e.standing)) c.self.inside.rows.entries c.sweep.new.self.entries c.args.number c.sweep.ensures.entries _ c.self.invariant.garbage;
    }
