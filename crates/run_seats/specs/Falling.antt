-- The steps that a run waits for.
use Rattle.std.specs.Prelude.{ℕ, ◌+◌, List, [], ◌∷◌}
use Rattle.run_seats.specs.Seated.{left_by}
use Rattle.run_seats.specs.SeatedPlain.{lines_left}
use Rattle.run_seats.specs.declared.seated_actor.SeatedActor.{SeatedActor}
use Rattle.run_seats.specs.declared.seated_actor.SeatedActor.TheVariants as kind
use Rattle.run_seats.specs.declared.store.Store.{Store}

-- those that an actor has left; for the sweeper's it doesn't wait
abbrev pub steps_left : Store → SeatedActor → ℕ
steps_left store (kind.Caller seated) = left_by store seated
steps_left store (kind.Sweeper sweeper) = 0
steps_left store (kind.Operator operator) = lines_left store operator

-- those of some actors
abbrev pub all_left : Store → List SeatedActor → ℕ
all_left store [] = 0
all_left store (actor ∷ actors) = steps_left store actor + all_left store actors
