use Rattle.std.proofs.Common.{◌≡◌, ◌≤◌, length, vec_capacity}
use Rattle.turn_lock.specs.Piles.{items_of}
use Rattle.turn_lock.specs.Rows.{ArePiles}
use Rattle.run_seats.specs.Places.{server_for}
use Rattle.store_run.specs.Dealt.{turns_of}
use Rattle.store_run.proofs.locked_places.lock_servers.Given as goal

abbrev pub invariant-loop-number : goal.invariant-loop-number
invariant-loop-number l = record {
  count : length l.locks.items ≡ l.number;
  turn_count : length l.turns.items ≡ l.number;
  piles : ArePiles (server_for l.script l.book) l.locks.items (turns_of l.script) (items_of l.turns.items);
  room : l.count ≤ vec_capacity l.locks;
  turn_room : l.count ≤ vec_capacity l.turns;
}
