-- A worker with its actors.
use Rattle.std.specs.Prelude.{◌≡◌, ℕ, ◌<◌, false, All, List, length, map, slice_index_or}
use Rattle.run_seats.specs.Places.{IsStore}
use Rattle.run_seats.specs.SeatedActors.{IsSeatedActor, number_of, some_has}
use Rattle.run_seats.specs.declared.store.Store.{Store}
use Rattle.run_seats.specs.declared.workers.Worker.{Worker}

-- all its actors are seated at the store
pub record IsWorking (store : Store) (worker : Worker) : Type 0 where
  pub store_is : IsStore store
  pub seated : All (IsSeatedActor store) worker.actors.items

-- it still has the same ones in their order, and none of them has a step, apart from the sweeper
pub record IsDone (store : Store) (before after : Worker) : Type 0 where
  pub seated : All (IsSeatedActor store) after.actors.items
  pub same : map number_of after.actors.items ≡ map number_of before.actors.items
  pub over : some_has store.script.now after.actors.items ≡ false

-- each of some workers
abbrev pub AreDone : Store → List Worker → List Worker → Type 0
AreDone store before after = (k : ℕ) (d : Worker) → k < length before → IsDone store (slice_index_or before k d) (slice_index_or after k d)
