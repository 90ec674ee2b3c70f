use Rattle.std.proofs.Common.{◌≡◌, ◌+◌, ◌++◌, map, vec_len, vec_capacity}
use Rattle.std.specs.List.{range_with_len}
use Rattle.stripe_dir.specs.Seats.{repairer_seat}
use Rattle.stripe_dir.proofs.opening.add_repairers.Given as goal

abbrev pub invariant-loop-i : goal.invariant-loop-i
invariant-loop-i l = record {
  items : l.seats.items ≡ l.fn.seats.items ++ map repairer_seat (range_with_len 0 l.i);
  len : vec_len l.seats ≡ vec_len l.fn.seats + l.i;
  room : vec_capacity l.seats ≡ vec_capacity l.fn.seats;
}
