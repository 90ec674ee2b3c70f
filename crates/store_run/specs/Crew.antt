-- Actors dealt to workers by their numbers.
use Rattle.std.specs.Prelude.{◌≡◌, ℕ, false, All, List, map}
use Rattle.turn_lock.specs.Numbered.{AreSpread}
use Rattle.run_seats.specs.SeatedActors.{IsSeatedActor, number_of, some_has}
use Rattle.run_seats.specs.declared.seated_actor.SeatedActor.{SeatedActor}
use Rattle.run_seats.specs.declared.store.Store.{Store}
use Rattle.run_seats.specs.declared.workers.Worker.{Worker}

-- the actors of each worker
abbrev pub actors_of : List Worker → List (List SeatedActor)
actors_of workers = map (λ worker. worker.actors.items) workers

-- actors of so many numbers from this one on are dealt to the workers
pub record IsCrew (store : Store) (from count : ℕ) (workers : List Worker) : Type 0 where
  pub seated : All (λ worker. All (IsSeatedActor store) worker.actors.items) workers
  pub spread : AreSpread number_of from count (actors_of workers)

-- none of their actors has a step, apart from the sweeper
abbrev pub AreOver : Store → List Worker → Type 0
AreOver store workers = All (λ worker. some_has store.script.now worker.actors.items ≡ false) workers
