-- The bytes that each client's calls were served, by what its turn has seen of the directory.
use Rattle.std.specs.Prelude.{◌≡◌, ℕ, List, ◌++◌, Some}
use Rattle.std.specs.List.{slice_get}
use mathlib.Core.List.{IsPrefix}
use Rattle.store_map.specs.declared.script.Script.{Script}
use Rattle.store_core.specs.Act.{Outcome}
use Rattle.thread_laws.specs.MadeSteps.{MadeStep}
use Rattle.call_steps.specs.declared.caller_calls.CallerCalls.{CallerCalls}
use Rattle.world_laws.specs.Served.{outcome_in, served_in}
use Rattle.thread_laws.specs.Owed.{WasOwed}
use Rattle.thread_laws.specs.ServedLaws.{HaveOwed}
use Rattle.thread_laws.specs.Noted.{Noted, made_in}
use Rattle.thread_laws.specs.Logs.{Logs, run_lists}

-- each call of client i that was served has the bytes that it was owed by its look among these steps
abbrev pub ServedWereOwed : Script → List MadeStep → ℕ → CallerCalls → Type 0
ServedWereOwed script steps i calls =
    (number place : ℕ) (bytes : List ℕ) → outcome_in (slice_get calls.ended.items number) ≡ Some (Outcome.Served place) →
    served_in (slice_get calls.ended.items number) ≡ Some bytes → WasOwed script steps i number place bytes

-- a client's turn has seen a part of the directory's history, and its calls were owed by that what they were served
pub record OwedBySeen (script : Script) (logs : Logs) (i : ℕ) (calls : CallerCalls) : Type 0 where
  pub seen : List (ℕ × Noted)
  pub goes : IsPrefix seen logs.directory
  pub owed : ServedWereOwed script (made_in seen) i calls

-- more steps leave it; so where it is so of each client, it is so of all by the whole history
pub record ServedStayOwed (script : Script) : Type 0 where
  pub more : (steps more : List MadeStep) (i : ℕ) (calls : CallerCalls) → ServedWereOwed script steps i calls → ServedWereOwed script (steps ++ more) i calls
  pub all :
      (servers : ℕ) (logs : Logs) (clients : List CallerCalls) → ((i : ℕ) (calls : CallerCalls) → slice_get clients i ≡ Some calls → OwedBySeen script logs i calls) →
      HaveOwed script (run_lists servers logs) clients

abbrev pub AllServedStayOwed : Type 0
AllServedStayOwed = (script : Script) → ServedStayOwed script
