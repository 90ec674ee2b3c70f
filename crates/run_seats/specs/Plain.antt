-- Steps of the sweeper and the operator, who have no call.
use Rattle.std.specs.Prelude.{◌≡◌, ⊤, ℕ, false, List, [], Option, Some, IfSome}
use Rattle.store_map.specs.declared.actor.Actor.{Actor}
use Rattle.store_map.specs.declared.actor.Actor.TheVariants as actor
use Rattle.store_map.specs.declared.actor.Token.{Token}
use Rattle.store_map.specs.declared.actor.Token.TheVariants as token
use Rattle.store_core.specs.Act.{Act, DirectoryStep, ServerStep}
use Rattle.store_core.specs.ActPlace.{ActPlace}
use Rattle.store_core.specs.Server.{Server}
use Rattle.thread_laws.specs.Lines.{operator_act}
use Rattle.thread_laws.specs.MadeSteps.{MadeStep}
use Rattle.stripe_stamps.specs.Sealed.{Sealed}
use Rattle.call_steps.specs.declared.need.Need.TheVariants as need
use Rattle.sweeper.specs.Sweeps.{SweeperOf, act_of, heard, need_of}
use Rattle.turn_lock.specs.History.{entries_of}
use Rattle.thread_laws.specs.CallEntries.{server_tells, directory_tells}
use Rattle.thread_laws.specs.Entries.{steps_in, next_moment}
use Rattle.thread_laws.specs.Noted.{Noted, made_in}
use Rattle.thread_laws.specs.Numbers.{IsTurnOf}
use Rattle.thread_laws.specs.Operated.{IsNextThere}
use Rattle.thread_laws.specs.Plain.{plain_step, HasAddedAtServer, HasAddedAtDirectory}
use Rattle.run_seats.specs.Fixed.{counts_of, counts_there}
use Rattle.run_seats.specs.declared.server_box.ServerIdentity.{ServerIdentity}
use Rattle.run_seats.specs.declared.directory_box.DirectoryIdentity.{DirectoryIdentity}

-- the entry of such a step at a server after a history and after a moment of its actor
abbrev pub plain_at_server : ℕ → Actor → Act → Server → List (ℕ × MadeStep) → ℕ → ℕ × MadeStep
plain_at_server number who act s log last = (number, plain_step who act (server_tells false act s) (next_moment (steps_in log) last))

-- at the directory it draws no stamps
abbrev pub plain_at_directory : ℕ → Actor → Act → Sealed → List (ℕ × Noted) → ℕ → ℕ × Noted
plain_at_directory number who act d log last =
    (number, record { made = plain_step who act (directory_tells false who 0 act d.core) (next_moment (made_in log) last); drawn = [] })

-- a sweeper that needs the server with this fixed part
pub record IsSweepAtServer (fixed : Option ServerIdentity) (number : ℕ) (s : SweeperOf) : Type 0 where
  pub identity : ServerIdentity
  pub is : fixed ≡ Some identity
  pub needs : need_of s ≡ need.Server identity.number
  pub turn : IsTurnOf (counts_of identity) number actor.Sweeper

-- or the directory
pub record IsSweepAtDirectory (fixed : Option DirectoryIdentity) (number : ℕ) (s : SweeperOf) : Type 0 where
  pub identity : DirectoryIdentity
  pub is : fixed ≡ Some identity
  pub needs : need_of s ≡ need.Directory
  pub turn : IsTurnOf (counts_there identity) number actor.Sweeper

-- the sweeper after its step: there is an entry more of it, whose answer it has heard
pub record HasSweptAtServer (number last : ℕ) (seen now : List (ℕ × MadeStep)) (s after : SweeperOf) : Type 0 where
  pub server : ℕ
  pub step : ServerStep
  pub acts : act_of s ≡ Act.AtServer server step
  pub added : HasAddedAtServer number last seen now actor.Sweeper (Act.AtServer server step)
  pub hears : after ≡ heard s added.answer

pub record HasSweptAtDirectory (number last : ℕ) (seen now : List (ℕ × Noted)) (s after : SweeperOf) : Type 0 where
  pub step : DirectoryStep
  pub acts : act_of s ≡ Act.AtDirectory step
  pub added : HasAddedAtDirectory number last seen now actor.Sweeper (Act.AtDirectory step)
  pub hears : after ≡ heard s added.answer

-- a line of the operator that is of a server, and its step there
abbrev pub IsOfServer : Token → Type 0
IsOfServer (token.Wipe server) = ⊤
IsOfServer (token.Down server) = ⊤
IsOfServer (token.Up server) = ⊤
IsOfServer line = ⊥

abbrev pub line_step : Token → ServerStep
line_step (token.Down server) = ServerStep.Down
line_step (token.Up server) = ServerStep.Up
line_step line = ServerStep.Wipe

-- a line of the operator is of the server with this fixed part, and its next one there after what it has seen of its own
pub record IsLineAtServer (fixed : Option ServerIdentity) (number : ℕ) (seen : List (ℕ × MadeStep)) (line : Token) : Type 0 where
  pub identity : ServerIdentity
  pub is : fixed ≡ Some identity
  pub of_server : IsOfServer line
  pub acts : operator_act line ≡ Some (Act.AtServer identity.number (line_step line))
  pub turn : IsTurnOf (counts_of identity) number actor.Operator
  pub next :
      IfSome identity.opening.script
      (λ script. IsNextThere script (ActPlace.Server identity.number) (steps_in (entries_of number seen)) (Act.AtServer identity.number (line_step line)))

-- or a reap of this actor is its next one at the directory
pub record IsLineAtDirectory (fixed : Option DirectoryIdentity) (number : ℕ) (seen : List (ℕ × Noted)) (reaped : Actor) : Type 0 where
  pub identity : DirectoryIdentity
  pub is : fixed ≡ Some identity
  pub turn : IsTurnOf (counts_there identity) number actor.Operator
  pub next :
      IfSome identity.opening.script
      (λ script. IsNextThere script ActPlace.Directory (made_in (entries_of number seen)) (Act.AtDirectory (DirectoryStep.Reap reaped)))

-- after the line's step there is an entry more of the operator
pub record HasOperatedAtServer (number last : ℕ) (seen now : List (ℕ × MadeStep)) (line : Token) : Type 0 where
  pub server : ℕ
  pub acts : operator_act line ≡ Some (Act.AtServer server (line_step line))
  pub added : HasAddedAtServer number last seen now actor.Operator (Act.AtServer server (line_step line))
