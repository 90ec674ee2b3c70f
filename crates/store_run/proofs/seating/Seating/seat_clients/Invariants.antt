use Rattle.std.proofs.Common.{◌≡◌, length}
use Rattle.store_run.specs.Seated.{IsSeatedFrom}
use Rattle.store_run.proofs.seating.Seating.seat_clients.Given as goal

-- the clients from a place on are seated
abbrev pub invariant-loop-place : goal.invariant-loop-place
invariant-loop-place l = record {
  store : l.self.store.now ≡ l.initial.self.store.now;
  workers : length l.self.workers.items ≡ length l.initial.self.workers.items;
  seating : IsSeatedFrom l.place l.self;
}
