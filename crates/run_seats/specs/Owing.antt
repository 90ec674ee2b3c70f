-- What a client's calls are owed by their looks among some steps at the directory.
use Rattle.std.specs.Prelude.{◌≡◌, ⊤, ℕ, List, length, Option, Some, option_map}
use Rattle.std.specs.List.{slice_get}
use Rattle.store_map.specs.declared.script.Script.{Script}
use Rattle.store_core.specs.Act.{Outcome}
use Rattle.thread_laws.specs.MadeSteps.{MadeStep}
use Rattle.call_steps.specs.CallOf.{CallOf}
use Rattle.call_machine.specs.Calls.{MachineOf}
use Rattle.call_machine.specs.Owes.{OwesBy}
use Rattle.thread_laws.specs.Owed.{WasOwed}
use Rattle.world_laws.specs.World.{DoingOf}
use Rattle.actors.specs.Callers.{PartOf, CallerOf, asked_at}

-- a call in work with this value, which is the part's call of this number and owes the bytes of its pins
pub record IsOwing (IsOwed : ℕ → List ℕ → Type 0) (part : PartOf) (number : ℕ) (call : CallOf) (work : Option MachineOf) : Type 0 where
  pub machine : MachineOf
  pub is : work ≡ Some machine
  pub same : machine.call ≡ call
  pub asked : asked_at part number ≡ Some machine.asked
  pub owes : OwesBy IsOwed machine

-- so it is of a caller that is in a call
abbrev pub OwesInWork : (ℕ → List ℕ → Type 0) → PartOf → ℕ → DoingOf → Option MachineOf → Type 0
OwesInWork IsOwed part number (DoingOf.Between token) work = ⊤
OwesInWork IsOwed part number (DoingOf.InCall call steps) work = IsOwing IsOwed part number call work

-- of the calls of client i: the one in work owes its pins, and each ended one that was served at a point was served the bytes that it was owed by its look
pub record OwesBySteps (script : Script) (steps : List MadeStep) (i : ℕ) (a : CallerOf) : Type 0 where
  pub work : OwesInWork (WasOwed script steps i (length a.actor.ended)) a.part (length a.actor.ended) a.actor.doing a.work
  pub count : length a.served ≡ length a.actor.ended
  pub ended :
      (number place : ℕ) (bytes : List ℕ) → option_map (λ ended. ended.outcome) (slice_get a.actor.ended number) ≡ Some (Outcome.Served place) →
      slice_get a.served number ≡ Some (Some bytes) → WasOwed script steps i number place bytes
