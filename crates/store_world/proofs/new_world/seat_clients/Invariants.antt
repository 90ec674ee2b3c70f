use Rattle.std.proofs.Common.{◌≡◌, ◌≤◌, ℕ, length, drop, slice_get, Some, vec_capacity}
use Rattle.actors.specs.Callers.{CallerOf}
use Rattle.store_world.specs.First.{IsFirstClient}
use Rattle.store_world.proofs.new_world.seat_clients.Given as goal

abbrev pub invariant-loop-part : goal.invariant-loop-part
invariant-loop-part l = record {
  seats : l.seats.items ≡ drop l.part-index l.fn.seats.items;
  count : length l.clients.items ≡ l.part-index;
  each : (i : ℕ) (client : CallerOf) → slice_get l.clients.items i ≡ Some client → IsFirstClient l.script l.book i client;
  room : length l.script.clients ≤ vec_capacity l.clients;
}
