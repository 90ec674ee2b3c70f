-- A client's step at the directory, among the steps there, keeps what its call is owed.
use Rattle.std.specs.Prelude.{◌≡◌, ℕ, Bool, List, [], ◌∷◌, ◌++◌}
use Rattle.store_map.specs.declared.actor.Actor.TheVariants as actor
use Rattle.store_map.specs.declared.script.Script.{Script}
use Rattle.store_core.specs.History.{call_of}
use Rattle.store_core.specs.Tokens.{actor_of}
use Rattle.thread_laws.specs.AtPlaces.{DirectoryAnswers}
use Rattle.thread_laws.specs.MadeSteps.{MadeStep}
use Rattle.stripe_stamps.specs.Sealed.{Sealed}
use Rattle.stripe_stamps.specs.Stamped.{HaveContents}
use Rattle.call_steps.specs.declared.need.Need.TheVariants as need
use Rattle.call_steps.specs.CallOf.{CallOf, act_of}
use Rattle.call_steps.specs.Steps.{stepped_at_directory, need_of}
use Rattle.call_machine.specs.Calls.{MachineOf, owed_by}
use Rattle.call_machine.specs.Owes.{OwesBy}
use Rattle.thread_laws.specs.Owed.{directory_after, WasOwed}

-- a directory after some steps, whose stamps have the contents of the script's calls
pub record IsAfter (script : Script) (steps : List MadeStep) (d : Sealed) : Type 0 where
  pub core : d.core ≡ directory_after script steps
  pub shape : d.core.shape ≡ script.geometry
  pub contents : HaveContents (call_of script) d

-- the step is the next one of the client's call, and the directory gives its answer
pub record IsItsStep (i number : ℕ) (short : Bool) (c : CallOf) (d : Sealed) (m : MadeStep) : Type 0 where
  pub by : m.actor ≡ actor.Client i
  pub whose : actor_of c.token ≡ actor.Client i
  pub of_call : m.number ≡ number
  pub count : c.number ≡ number
  pub act : m.act ≡ act_of c
  pub shortage : m.shortage.step ≡ short
  pub answers : DirectoryAnswers m d.core

-- what it was owed by the steps before it is owed by the steps with it, and so is what its look pins
abbrev pub StepsKeepOwing : Type 0
StepsKeepOwing =
    (script : Script) (steps : List MadeStep) (m : MadeStep) (i number : ℕ) (short due : Bool) (c after : MachineOf) (d : Sealed) →
    IsAfter script steps d → c.call.book.geometry ≡ script.geometry → IsItsStep i number short c.call d m → need_of c.call ≡ need.Directory →
    after.call ≡ (stepped_at_directory short due c.call d.core).1 → after.asked ≡ c.asked → after.owed ≡ owed_by short d c →
    OwesBy (WasOwed script steps i number) c → OwesBy (WasOwed script (steps ++ m ∷ []) i number) after
