-- The steps of a writing are those of its call, as the store's definitions say them.
use Rattle.std.specs.Prelude.{◌≡◌, ℕ, ◌/◌, Bool, true, List, [], Some, IsTrue}
use Rattle.clay_grid.specs.Shape.{Shape, stripe_length}
use Rattle.store_core.specs.Told.{Told}
use Rattle.store_core.specs.Act.{Act, ServerStep, Outcome}
use Rattle.store_core.specs.ActPlace.{is_in_pass}
use Rattle.store_core.specs.NextAct.{Job}
use Rattle.store_core.specs.Server.{Server, at_server}
use Rattle.store_core.specs.Step.{take_from}
use Rattle.run_laws.specs.State.{State, CallState}
use Rattle.run_laws.specs.States.{prepare_all_state}
use Rattle.run_laws.specs.StateActs.{act_at}
use Rattle.run_laws.specs.CallLaws.{next_call}
use Rattle.write_course.specs.Writings.{server_of, begins_version}
use Rattle.write_course.specs.WritingSteps.{stepped}

-- a call with these changes at a state
abbrev pub call_at : List (ℕ × ℕ) → State → CallState
call_at pairs at = record { pairs = pairs; at = at }

-- a step at this server: the call's next act, of which server and call become what they become in the writing's step, and which takes nothing
pub record IsServerStep (g : Shape) (tries : ℕ) (job : Job) (pairs : List (ℕ × ℕ)) (at : State) (server : ℕ) : Type 0 where
  pub step : ServerStep
  pub act : act_at g tries job pairs at ≡ Act.AtServer server step
  pub server_after : (short : Bool) (s : Server) → (at_server short step s).0 ≡ (stepped g short s at).0
  pub call_after : (short : Bool) (s : Server) → next_call g job (call_at pairs at) (at_server short step s).1 ≡ call_at pairs (stepped g short s at).1
  pub takes_after : (short : Bool) (s : Server) (takes : List ℕ) → take_from (Act.AtServer server step) (at_server short step s).1 takes ≡ takes

-- want of memory in the coding before a step ends the call, which has a pass there
pub record IsShortOfMemory (g : Shape) (tries : ℕ) (job : Job) (pairs : List (ℕ × ℕ)) (at : State) : Type 0 where
  pub pass : IsTrue (is_in_pass (act_at g tries job pairs at))
  pub after : next_call g job (call_at pairs at) Told.Short ≡ call_at pairs (State.Ending Outcome.NoMemory)

-- for every call
pub record StepsAreOfTheCall : Type 0 where
  pub drawn :
      (g : Shape) (job : Job) (pairs : List (ℕ × ℕ)) (versions : List ℕ) →
      next_call g job (call_at pairs State.Drawing) (Told.Versions versions)
      ≡ call_at pairs (prepare_all_state g versions (job.note.offset / stripe_length g) versions [])
  pub at_server :
      (g : Shape) (tries : ℕ) (job : Job) (pairs : List (ℕ × ℕ)) (at : State) (server : ℕ) →
      server_of at ≡ Some server → IsServerStep g tries job pairs at server
  pub short :
      (g : Shape) (tries : ℕ) (job : Job) (pairs : List (ℕ × ℕ)) (at : State) →
      begins_version at ≡ true → IsShortOfMemory g tries job pairs at
