-- A caller's turn in its part of a script.
use Rattle.std.specs.Prelude.{◌≡◌, ℕ, List, ◌++◌}
use Rattle.store_map.specs.declared.script.Script.{Script}
use Rattle.version_seal.specs.Entry.{StampOf}
use Rattle.chunk_server.specs.State.{ServerState}
use Rattle.stripe_stamps.specs.Sealed.{Sealed}
use Rattle.call_steps.specs.declared.step_made.Step.{Step}
use Rattle.world_laws.specs.StepsTold.{IsStep}
use Rattle.world_laws.specs.TurnMade.{turn_made}
use Rattle.actors.specs.Turns.{places_of}
use Rattle.actors.specs.Turned.{MakesTurn}
use Rattle.actors.specs.Callers.{CallerOf, work_of, who_of}
use Rattle.actors.specs.Owing.{Owes}

-- a turn of the caller at this place, with what it leaves of the bytes that its calls read
pub record MakesCallerTurn (script : Script) (place : ℕ) (a : CallerOf) (d : Sealed) (servers : List ServerState) (after : CallerOf) (now : Sealed) (others : List ServerState) : Type 0 where
  pub makes : MakesTurn script (who_of a.part place) (work_of a.part) a.actor (places_of d servers) after.actor (places_of now others)
  pub owes : Owes a d now after makes.call makes.next makes.turn.coding makes.turn.short

-- that turn, and the step of the store's definitions that it makes, as the program tells it
pub record TellsCallerTurn (script : Script) (place : ℕ) (a : CallerOf) (d : Sealed) (servers : List ServerState) (after : CallerOf) (now : Sealed) (others : List ServerState) (step : Step) : Type 0 where
  pub turn : MakesCallerTurn script place a d servers after now others
  pub told : IsStep step (turn_made (who_of a.part place) turn.makes.turn.coding turn.makes.turn.short turn.makes.call (places_of d servers))

-- a list that has grown
pub record HasMore (stamps now : List StampOf) : Type 0 where
  pub more : List StampOf
  pub is : now ≡ stamps ++ more
