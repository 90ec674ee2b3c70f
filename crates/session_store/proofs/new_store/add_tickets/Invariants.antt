use Rattle.std.proofs.Common.{◌≡◌, ◌≤◌, ◌+◌, ◌-◌, ◌++◌, map, vec_len, vec_capacity}
use Rattle.std.specs.List.{range_with_len}
use Rattle.stripe_dir.specs.Seats.{client_seat, repairer_seat}
use Rattle.session_store.specs.Beginning.{reader_tickets}
use Rattle.session_store.proofs.new_store.add_tickets.Given as goal

-- the next seats have become tickets, and all have room
abbrev pub invariant-loop-made : goal.invariant-loop-made
invariant-loop-made l = record {
  seats : l.seats.items ≡ map client_seat (range_with_len (1 + l._made) (l.count - l._made)) ++ map repairer_seat (range_with_len 0 2);
  tickets : l.tickets.items ≡ reader_tickets l._made;
  len : vec_len l.tickets ≡ l._made;
  room : l.count ≤ vec_capacity l.tickets;
}
