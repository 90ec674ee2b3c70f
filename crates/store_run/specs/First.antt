-- Turns before the first step.
use Rattle.std.specs.Prelude.{◌≡◌, ℕ, [], Some}
use Rattle.std.specs.List.{slice_get}
use Rattle.thread_laws.specs.MadeSteps.{MadeStep}
use Rattle.turn_lock.specs.TurnState.{TurnState}
use Rattle.run_seats.specs.Places.{HasTurns}
use Rattle.run_seats.specs.declared.server_box.ServerIdentity.{ServerIdentity}
use Rattle.run_seats.specs.declared.store.Store.{Store}
use Rattle.run_seats.specs.declared.seat_turns.Turns.{Turns}

-- an actor's turns that have seen nothing
pub record AreNew (store : Store) (turns : Turns) : Type 0 where
  pub has : HasTurns store turns
  pub directory : turns.directory.seen ≡ []
  pub servers : (j : ℕ) (turn : TurnState ServerIdentity MadeStep) → slice_get turns.servers.items j ≡ Some turn → turn.seen ≡ []
