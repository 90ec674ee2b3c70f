use Rattle.std.proofs.Common.{◌≡◌, ℕ, ◌+◌, ◌∷◌, List, length, drop, map, zip, slice_get, get_or, refl, ap, sym, subst, ◌∙◌, arith}
use Rattle.std.specs.Vec.Iter.{into_iter_items}
use Rattle.store_core.specs.Directory.{Version, Standing as CoreStanding}
use Rattle.store_core.specs.Commit.{place_all}
use Rattle.store_core.specs.Lookups.{holds_standing, is_superseded_standing}
use Rattle.version_table.specs.Known.{IsKnown}
use Rattle.version_table.proofs.TableSteps.{still_other}
use Rattle.version_table.proofs.Known.{still_known}
use Rattle.dir_parts.proofs.Entries.{drop-next}
use Rattle.version_table.proofs.versions.Versions.make_all_current.Goals as goal

pub make_current-requires-clause-known : goal.make_current-requires-clause-known
make_current-requires-clause-known c = c.loop-number.invariant.known (get_or c.args.numbers.now c.loop-number.number-index 0) (c.requires.known c.loop-number.number-index 0 c.loop-number-test.true)

pub make_current-requires-clause-other : goal.make_current-requires-clause-other
make_current-requires-clause-other c = c.loop-number.invariant.other (get_or c.args.numbers.now c.loop-number.number-index 0) (c.requires.drawn c.loop-number.number-index 0 c.loop-number-test.true).1

pub loop-number-preserved : goal.loop-number-preserved
loop-number-preserved c =
    let i : ℕ = c.loop-number.number-index in
    let numbers : List ℕ = c.args.numbers.now in
    let next : drop i numbers ≡ get_or numbers i 0 ∷ drop (i + 1) numbers = drop-next numbers i 0 c.loop-number-test.true in
    record {
      ahead =
          ap (λ vs. place_all (zip (drop (i + 1) numbers) (map (λ row. row.items) (into_iter_items c.next.new.self))) vs) c.make_current.ensures.listed
          ∙ sym (λ j. place_all (zip (next j) (map (λ row. row.items) (c.in-Some.ensures.items j))) c.loop-number.self.listed)
          ∙ c.loop-number.invariant.ahead;
      pins = c.make_current.ensures.pins ∙ c.loop-number.invariant.pins;
      rows = omega (arith, ap length c.in-Some.ensures.items, c.loop-number.invariant.rows);
      known = λ n h.
          let put : Version → Version = λ version. record version { placed = c.in-Some.row.items; standing = CoreStanding.Current } in
          subst (λ vs. IsKnown vs n) (sym c.make_current.ensures.listed) (still_known (get_or numbers i 0) n put c.loop-number.self.listed (λ v unswept. refl) (c.loop-number.invariant.known n h));
      other = λ n h. ap (λ vs. holds_standing is_superseded_standing (slice_get vs n)) c.make_current.ensures.listed ∙ still_other (get_or numbers i 0) n c.in-Some.row.items c.loop-number.self.listed (c.loop-number.invariant.other n h);
    }
