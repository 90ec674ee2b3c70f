use Rattle.std.proofs.Common.{◌≡◌, ◌<◌, ◌+◌, ◌^◌, ◌&&◌, ℕ, Bool, true, false, map, List, get_or, slice_get, Option, Some, None, IfSome, refl, sym, ap, subst, ◌∙◌, arith}
use Rattle.std.proofs.lemmas.Bool.{ne_eqb}
use Rattle.store_core.specs.Lists.{change_at}
use Rattle.store_core.specs.Lookups.{holds_standing, is_superseded_standing}
use Rattle.version_table.specs.Told.{Entry, entry_pinned}
use Rattle.version_table.specs.Rows.{is_garbage, is_superseded}
use Rattle.version_table.specs.Table.{Table, version_in}
use Rattle.dir_parts.proofs.Entries.{map-change_at, map-change_same}
use Rattle.version_table.proofs.TableSteps.{placed_same, pins_read}
use Rattle.version_table.proofs.versions.Versions.pin.Goals as goal

never : (entry : Entry) → is_garbage (entry_pinned entry) ≡ false
never entry = ap (λ b. is_superseded entry.standing && b) (ne_eqb (entry.pins + 1) 0 (λ same. omega (arith, same))) ∙ by (is_superseded entry.standing)
  where
    by : (b : Bool) → (b && false) ≡ false
    by true = refl
    by false = refl

fits : (entries : List Entry) (number : ℕ) (o : Option Entry) → slice_get entries number ≡ o → get_or (map (λ (entry : Entry). entry.pins) entries) number 0 + 1 < 2 ^ 64 → IfSome o (λ (entry : Entry). entry.pins + 1 < 2 ^ 64)
fits entries number None e h = tt
fits entries number (Some x) e h = subst (λ (n : ℕ). n + 1 < 2 ^ 64) (pins_read entries number x e) h

pub pin-requires : goal.pin-requires
pin-requires c = fits c.self.inside.rows.entries c.args.number (slice_get c.self.inside.rows.entries c.args.number) refl (subst (λ (t : Table). get_or t.pins c.args.number 0 + 1 < 2 ^ 64) (sym c.self.view_is) c.requires.fits)

pub returns-clause-listed : goal.returns-clause-listed
returns-clause-listed c =
    ap (map version_in) c.pin.ensures.entries ∙ map-change_same version_in c.args.number entry_pinned c.self.inside.rows.entries (λ x e. refl) ∙ ap (λ (t : Table). t.listed) c.self.view_is

pub returns-clause-pins : goal.returns-clause-pins
returns-clause-pins c =
    ap (map (λ (entry : Entry). entry.pins)) c.pin.ensures.entries ∙ map-change_at (λ (entry : Entry). entry.pins) c.args.number entry_pinned (λ (count : ℕ). count + 1) c.self.inside.rows.entries (λ x e. refl)
    ∙ ap (λ (t : Table). change_at c.args.number (λ (count : ℕ). count + 1) t.pins) c.self.view_is

pub invariant_of-self : goal.invariant_of-self
invariant_of-self c =
    let old : List Entry = c.self.inside.rows.entries in
    let other : holds_standing is_superseded_standing (slice_get (map version_in old) c.args.number) ≡ false = ap (λ (t : Table). holds_standing is_superseded_standing (slice_get t.listed c.args.number)) c.self.view_is ∙ c.requires.other in
    record {
      room = omega (arith, c.pin.ensures.unswept, c.self.invariant.room);
      heap = c.self.invariant.heap;
      garbage = placed_same entry_pinned old c.pin.new.self.entries c.args.number c.pin.ensures.entries other never _ c.self.invariant.garbage;
    }
