use Rattle.std.proofs.Common.{◌≡◌, length, map, All, Vec, Global}
use Rattle.store_core.specs.Placements.{IsRow}
use Rattle.store_map.specs.declared.placement.Placement.{Placement}
use Rattle.dir_walks.proofs.test_rows.rows.Given as goal

abbrev pub invariant-loop : goal.invariant-loop
invariant-loop l = record {
  count : length l.rows.items ≡ l.counter;
  whole : All (IsRow l.geometry) (map (λ (row : Vec Placement Global). row.items) l.rows.items);
}
