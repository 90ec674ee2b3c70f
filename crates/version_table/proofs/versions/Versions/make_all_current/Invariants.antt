use Rattle.std.proofs.Common.{◌≡◌, ℕ, ◌+◌, false, length, drop, map, zip, slice_get}
use Rattle.std.specs.Vec.Iter.{into_iter_items}
use Rattle.store_core.specs.Commit.{place_all}
use Rattle.store_core.specs.Lookups.{holds_standing, is_superseded_standing}
use Rattle.version_table.specs.Known.{IsKnown}
use Rattle.version_table.proofs.versions.Versions.make_all_current.Given as goal

abbrev pub invariant-loop-number : goal.invariant-loop-number
invariant-loop-number l = record {
  ahead : place_all (zip (drop l.number-index l.numbers) (map (λ row. row.items) (into_iter_items l.rows))) l.self.listed ≡ place_all (zip l.numbers (map (λ row. row.items) l.fn.rows.items)) l.fn.self.listed;
  pins : l.self.pins ≡ l.fn.self.pins;
  rows : length (into_iter_items l.rows) + l.number-index ≡ length l.numbers;
  known : (n : ℕ) → IsKnown l.fn.self.listed n → IsKnown l.self.listed n;
  other : (n : ℕ) → holds_standing is_superseded_standing (slice_get l.fn.self.listed n) ≡ false → holds_standing is_superseded_standing (slice_get l.self.listed n) ≡ false;
}
