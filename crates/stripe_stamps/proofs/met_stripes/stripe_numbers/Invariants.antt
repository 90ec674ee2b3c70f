use Rattle.std.proofs.Common.{◌≡◌, vec_len, vec_capacity}
use Rattle.std.specs.List.{range_with_len}
use Rattle.stripe_stamps.proofs.met_stripes.stripe_numbers.Given as goal

abbrev pub invariant-loop-i : goal.invariant-loop-i
invariant-loop-i l = record {
  items : l.numbers.items ≡ range_with_len l.first l.i;
  len : vec_len l.numbers ≡ l.i;
  room : vec_capacity l.numbers ≡ l.count;
}
