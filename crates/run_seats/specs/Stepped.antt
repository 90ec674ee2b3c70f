-- A caller after a step at a place, and the entry of that step.
use Rattle.std.specs.Prelude.{◌≡◌, ℕ, List, [], ◌∷◌, ◌++◌, Option, None, Some}
use mathlib.Core.List.{IsPrefix}
use Rattle.store_core.specs.Server.{Server}
use Rattle.store_core.specs.Tokens.{actor_of}
use Rattle.thread_laws.specs.MadeSteps.{MadeStep}
use Rattle.stripe_stamps.specs.Sealed.{Sealed}
use Rattle.stripe_stamps.specs.Stamped.{HasStamps}
use Rattle.call_steps.specs.CallOf.{act_of}
use Rattle.call_steps.specs.Steps.{stepped_at_directory, stepped_at_server}
use Rattle.call_machine.specs.Calls.{MachineOf, drawn_by, owed_by}
use Rattle.actors.specs.Callers.{CallerOf, Knows}
use Rattle.actors.specs.Steps.{Concludes}
use Rattle.thread_laws.specs.AtDirectory.{StandsAtDirectory}
use Rattle.thread_laws.specs.CallEntries.{directory_entry, directory_tells, made_by, server_entry}
use Rattle.thread_laws.specs.HasMade.{HasMadeAtServer, HasMadeAtDirectory}
use Rattle.thread_laws.specs.Noted.{Noted}
use Rattle.thread_laws.specs.Numbers.{Counts}
use Rattle.thread_laws.specs.SomeStep.{some_step, some_note}
use Rattle.run_seats.specs.Seen.{seen_there}

-- the entry of the step of a call in work, which left it so
abbrev pub entry_at_server : ℕ → Option MachineOf → MachineOf → Server → List (ℕ × MadeStep) → ℕ → ℕ × MadeStep
entry_at_server number None left s log last = (number, some_step)
entry_at_server number (Some c) left s log last = server_entry number c.call left.call s log last

abbrev pub entry_at_directory : ℕ → Option MachineOf → MachineOf → Sealed → List (ℕ × Noted) → ℕ → ℕ × Noted
entry_at_directory number None left d log last = (number, some_note)
entry_at_directory number (Some c) left d log last = directory_entry number c.call left.call d (drawn_by left.call.step d c) log last

-- of the caller's call there is an entry more, and the call goes on or is over; what it keeps it knows as before
pub record HasSteppedAtServer (number last : ℕ) (seen now : List (ℕ × MadeStep)) (a after : CallerOf) : Type 0 where
  pub call : MachineOf
  pub was : a.work ≡ Some call
  pub left : MachineOf
  pub made : HasMadeAtServer number last seen now call.call left.call
  pub asked : left.asked ≡ call.asked
  pub owed : left.owed ≡ call.owed
  pub place : Server
  pub stepped : left.call ≡ (stepped_at_server left.call.step left.call.due call.call place).1
  pub concludes : Concludes a left after
  pub knows : (d : Sealed) → Knows d a → Knows d after

-- the directory that was taken for the call's step, with its whole history then, and what the step added to that
pub record WasThere (number max : ℕ) (seen now : List (ℕ × Noted)) (call left : MachineOf) : Type 0 where
  pub of : Counts
  pub directory : Sealed
  pub log : List (ℕ × Noted)
  pub goes : IsPrefix seen log
  pub stands : StandsAtDirectory of max directory log
  pub stamps : HasStamps directory
  pub its : call.call.book ≡ directory.book
  pub stepped : left.call ≡ (stepped_at_directory left.call.step left.call.due call.call directory.core).1
  pub owed : left.owed ≡ owed_by left.call.step directory call
  pub moment : ℕ
  pub after :
      now
      ≡ log
      ++ (
        number,
        record {
          made = made_by call.call left.call.step (directory_tells left.call.step (actor_of call.call.token) call.call.number (act_of call.call) directory.core) moment;
          drawn = drawn_by left.call.step directory call;
        },
      )
      ∷ []

-- so it is at the directory, where an object has at most so many bytes; what it keeps it knows by the history that it has seen then
pub record HasSteppedAtDirectory (number last max : ℕ) (seen now : List (ℕ × Noted)) (a after : CallerOf) : Type 0 where
  pub call : MachineOf
  pub was : a.work ≡ Some call
  pub left : MachineOf
  pub made : HasMadeAtDirectory number last max seen now call.call left.call
  pub asked : left.asked ≡ call.asked
  pub there : WasThere number max seen now call left
  pub concludes : Concludes a left after
  pub knows : Knows (seen_there now a.book) after
