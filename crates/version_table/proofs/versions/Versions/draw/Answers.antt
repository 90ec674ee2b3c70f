use Rattle.std.proofs.Common.{ℕ, ◌++◌, map, List, subst, sym, ap, refl, ◌∙◌, arith}
use Rattle.std.proofs.lemmas.List.{map-append}
use Rattle.std.specs.List.{range_with_len}
use Rattle.std.specs.List.Sorted.{IsPermutation}
use Rattle.std.specs.BinaryHeap.{heap_items}
use Rattle.version_table.specs.Places.{places}
use Rattle.version_table.specs.Told.{Entry, entry_drawn}
use Rattle.version_table.specs.Rows.{is_garbage}
use Rattle.version_table.specs.Table.{Table, version_in, number_in}
use Rattle.version_table.specs.TableSteps.{base_version, drawn_version}
use Rattle.version_table.proofs.Drawing.{map-map, zeros, places-added}
use Rattle.version_table.proofs.versions.Versions.draw.Goals as goal

pub returns-clause-listed : goal.returns-clause-listed
returns-clause-listed c =
    let drawn : ℕ → Entry = λ stripe. entry_drawn c.args.actor c.args.number stripe (base_version c.args.pins.now stripe) in
    let stripes : List ℕ = range_with_len c.args.first c.args.count in
    ap (map version_in) c.draw.ensures.entries ∙ map-append version_in c.self.inside.rows.entries (map drawn stripes)
    ∙ (λ i. (c.self.view_is i).listed ++ map-map version_in drawn (drawn_version c.args.actor c.args.number c.args.pins.now) (λ s. refl) stripes i)

pub returns-clause-pins : goal.returns-clause-pins
returns-clause-pins c =
    let drawn : ℕ → Entry = λ stripe. entry_drawn c.args.actor c.args.number stripe (base_version c.args.pins.now stripe) in
    let stripes : List ℕ = range_with_len c.args.first c.args.count in
    let read : Entry → ℕ = λ entry. entry.pins in
    ap (map read) c.draw.ensures.entries ∙ map-append read c.self.inside.rows.entries (map drawn stripes)
    ∙ (λ i. (c.self.view_is i).pins ++ zeros read drawn (λ s. refl) c.args.first c.args.count i)

pub invariant_of-self : goal.invariant_of-self
invariant_of-self c =
    let drawn : ℕ → Entry = λ stripe. entry_drawn c.args.actor c.args.number stripe (base_version c.args.pins.now stripe) in
    record {
      room = omega (arith, c.draw.ensures.unswept, c.self.invariant.room, c.requires.room, ap (λ (t : Table). t.room) c.self.view_is);
      heap = c.self.invariant.heap;
      garbage =
          subst (λ (l : List ℕ). IsPermutation (map number_in (heap_items c.self.inside.garbage)) l)
          (sym (ap (places is_garbage 0) c.draw.ensures.entries ∙ places-added is_garbage drawn (λ s. refl) 0 c.self.inside.rows.entries (range_with_len c.args.first c.args.count))) c.self.invariant.garbage;
    }
