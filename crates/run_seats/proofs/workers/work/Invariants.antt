use Rattle.std.specs.Prelude.{All, ◌≡◌, map}
use Rattle.run_seats.specs.SeatedActors.{IsSeatedActor, number_of}
use Rattle.run_seats.proofs.workers.work.Given as goal

abbrev pub invariant-loop : goal.invariant-loop
invariant-loop g l = All (IsSeatedActor l.store) l.worker.actors.items × (map number_of l.worker.actors.items ≡ map number_of l.initial.worker.actors.items)
