-- What a gate was told of.
use Rattle.std.specs.Prelude.{◌≡◌, ◌+◌, ◌-◌, ◌^◌, ℕ, true, min}
use Rattle.store_map.specs.declared.actor.Actor.{Actor}
use Rattle.store_map.specs.declared.actor.Actor.TheVariants as actor
use Rattle.store_map.specs.declared.script.Script.{Script}
use Rattle.run_seats.specs.Seated.{seated_has}
use Rattle.run_seats.specs.SeatedPlain.{line_left}
use Rattle.run_seats.specs.declared.gate.Place.{Place}
use Rattle.run_seats.specs.declared.seated_actor.SeatedActor.{SeatedActor}
use Rattle.run_seats.specs.declared.seated_actor.SeatedActor.TheVariants as kind

-- of a step of this actor, after so many of its own, at some place
pub record IsTold (WasTold : Actor → ℕ → Place → Type 0) (who : Actor) (steps : ℕ) : Type 0 where
  pub at : Place
  pub told : WasTold who steps at

-- of an actor's next step, where it has one; the sweeper has one always
abbrev pub IsToldOf : (Actor → ℕ → Place → Type 0) → Script → SeatedActor → Type 0
IsToldOf WasTold script (kind.Caller seated) = seated_has script seated ≡ true → IsTold WasTold seated.actor seated.steps
IsToldOf WasTold script (kind.Sweeper sweeper) = IsTold WasTold actor.Sweeper sweeper.steps
IsToldOf WasTold script (kind.Operator operator) = line_left operator ≡ true → IsTold WasTold actor.Operator operator.made

-- an actor has counted the step of which its gate was told; the sweeper up to the greatest count that there is
abbrev pub HasCounted : Script → SeatedActor → SeatedActor → Type 0
HasCounted script (kind.Caller before) (kind.Caller after) = seated_has script before ≡ true → after.steps ≡ before.steps + 1
HasCounted script (kind.Sweeper before) (kind.Sweeper after) = after.steps ≡ min (before.steps + 1) (2 ^ 64 - 1)
HasCounted script (kind.Operator before) (kind.Operator after) = line_left before ≡ true → after.made ≡ before.made + 1
HasCounted script before after = ⊥
