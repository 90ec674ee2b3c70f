use Rattle.std.specs.Prelude.{All, ◌≡◌, length, map}
use Rattle.run_seats.specs.SeatedActors.{IsSeatedActor, number_of}
use Rattle.run_seats.proofs.Falling.{IsVisited}
use Rattle.run_seats.proofs.workers.round.Given as goal

abbrev pub invariant-loop-place : goal.invariant-loop-place
invariant-loop-place g l = record {
  seated : All (IsSeatedActor l.store) l.actors.items;
  count : length l.actors.items ≡ length l.initial.actors.items;
  numbers : map number_of l.actors.items ≡ map number_of l.initial.actors.items;
  visited : IsVisited l.store l.place l.initial.actors.items l.actors.items;
}
