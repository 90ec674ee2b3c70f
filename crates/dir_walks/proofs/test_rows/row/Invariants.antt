use Rattle.std.proofs.Common.{◌≡◌, replicate, vec_len, vec_capacity}
use Rattle.store_map.specs.declared.placement.Placement.TheVariants as placement
use Rattle.dir_walks.proofs.test_rows.row.Given as goal

abbrev pub invariant-loop : goal.invariant-loop
invariant-loop l = record {
  items : l.row.items ≡ replicate l.counter (placement.At 0);
  len : vec_len l.row ≡ l.counter;
  room : vec_capacity l.row ≡ l.servers;
}
