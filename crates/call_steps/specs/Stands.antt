-- When the machine of a call stands for what the store keeps of its actor.
use Rattle.std.specs.Prelude.{◌≡◌, ℕ, [], length, replicate}
use Rattle.clay_grid.specs.Shape.{Shape, chunk_count}
use Rattle.store_core.specs.NextAct.{Job}
use Rattle.store_core.specs.Work.{Calling}
use Rattle.run_laws.specs.State.{first_state}
use Rattle.run_laws.specs.States.{open_call}
use Rattle.run_laws.specs.CallAfter.{state_of}
use Rattle.call_steps.specs.CallOf.{CallOf}

-- the machine shows this call of its actor, where the answers that are kept lead to, and what the actor has taken; the call's number is how many calls of the actor have ended
pub record Stands (g : Shape) (most : ℕ) (its : Job) (actor : Calling) (c : CallOf) : Type 0 where
  pub shape : c.book.geometry ≡ g
  pub tries : c.tries ≡ most
  pub job : c.job ≡ its
  pub number : c.number ≡ length actor.ended
  pub state : c.state ≡ open_call g (state_of g its actor.told)
  pub takes : c.takes ≡ actor.takes

-- a machine before its first step, of a call with this number
pub record IsFirst (g : Shape) (most : ℕ) (its : Job) (count : ℕ) (c : CallOf) : Type 0 where
  pub shape : c.book.geometry ≡ g
  pub tries : c.tries ≡ most
  pub job : c.job ≡ its
  pub number : c.number ≡ count
  pub state : c.state ≡ open_call g first_state
  pub takes : c.takes ≡ replicate (chunk_count g) 0

-- an actor that was told nothing yet of its next call
pub record IsBetweenCalls (g : Shape) (actor : Calling) : Type 0 where
  pub told : actor.told ≡ []
  pub takes : actor.takes ≡ replicate (chunk_count g) 0
