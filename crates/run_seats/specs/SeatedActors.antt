-- Actors of all kinds, each with its turns at all places of a store.
use Rattle.std.specs.Prelude.{◌≡◌, ⊤, ℕ, Bool, false, All, List}
use Rattle.std.specs.List.{list_any}
use Rattle.store_map.specs.declared.script.Script.{Script}
use Rattle.run_seats.specs.Seated.{IsSeated, seated_has}
use Rattle.run_seats.specs.SeatedPlain.{IsOperator, IsSweeper, line_left}
use Rattle.run_seats.specs.declared.seated_actor.SeatedActor.{SeatedActor}
use Rattle.run_seats.specs.declared.seated_actor.SeatedActor.TheVariants as kind
use Rattle.run_seats.specs.declared.store.Store.{Store}

-- each as it should be
abbrev pub IsSeatedActor : Store → SeatedActor → Type 0
IsSeatedActor store (kind.Caller seated) = IsSeated store seated
IsSeatedActor store (kind.Sweeper sweeper) = IsSweeper store sweeper
IsSeatedActor store (kind.Operator operator) = IsOperator store operator

-- the number of its turns
abbrev pub number_of : SeatedActor → ℕ
number_of (kind.Caller seated) = seated.turns.number
number_of (kind.Sweeper sweeper) = sweeper.turns.number
number_of (kind.Operator operator) = operator.turns.number

-- whether it has a step, apart from the sweeper's, and one of some actors
abbrev pub actor_has : Script → SeatedActor → Bool
actor_has script (kind.Caller seated) = seated_has script seated
actor_has script (kind.Sweeper sweeper) = false
actor_has script (kind.Operator operator) = line_left operator

abbrev pub some_has : Script → List SeatedActor → Bool
some_has script actors = list_any (actor_has script) actors

-- a caller has a book of the script's code
abbrev pub IsOfCode : Script → SeatedActor → Type 0
IsOfCode script (kind.Caller seated) = seated.caller.book.geometry ≡ script.geometry
IsOfCode script actor = ⊤

abbrev pub AreOfCode : Script → List SeatedActor → Type 0
AreOfCode script actors = All (IsOfCode script) actors
