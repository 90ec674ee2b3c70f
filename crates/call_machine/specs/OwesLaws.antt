-- Each step of a call keeps what it owes.
use Rattle.std.specs.Prelude.{◌≡◌, ℕ, Bool, false, List, Contains}
use Rattle.store_core.specs.Act.{Act, DirectoryStep, Outcome}
use Rattle.store_core.specs.Agreement.{Seat}
use Rattle.store_core.specs.AtDirectory.{at_directory}
use Rattle.store_core.specs.Read.{parts_of}
use Rattle.store_core.specs.Server.{Server}
use Rattle.store_core.specs.Told.{Told, Seen}
use Rattle.store_core.specs.Tokens.{actor_of}
use Rattle.version_seal.specs.Entry.{BookOf}
use Rattle.stripe_stamps.specs.Sealed.{Sealed}
use Rattle.call_steps.specs.declared.need.Need.TheVariants as need
use Rattle.call_steps.specs.CallOf.{act_of}
use Rattle.call_steps.specs.Steps.{stepped_at_directory, stepped_at_server, coded, need_of, IsDueInPass}
use Rattle.client_read.specs.Owed.{contents_of}
use Rattle.call_machine.specs.Calls.{MachineOf, first_call, owed_by}
use Rattle.call_machine.specs.Kinds.{Asked, Machine, machine_of}
use Rattle.call_machine.specs.Owes.{OwesBy}

-- where the call's look is told pins, their bytes by the directory's stamps are owed at its point
abbrev pub LookIsOwed : (ℕ → List ℕ → Type 0) → Bool → MachineOf → Sealed → Type 0
LookIsOwed IsOwed short c d =
    (place length_now : ℕ) (seen : List Seen) → act_of c.call ≡ Act.AtDirectory (DirectoryStep.Look c.call.job.note) →
    (at_directory short (actor_of c.call.token) c.call.number (DirectoryStep.Look c.call.job.note) d.core).1 ≡ Told.Pinned place length_now seen →
    IsOwed place (contents_of d.stamps (parts_of c.call.book.geometry c.call.job.note length_now seen))

-- by whatever is meant by owed
pub record KeepsOwing (IsOwed : ℕ → List ℕ → Type 0) : Type 0 where
  -- before its first step it owes nothing
  pub first : (book : BookOf) (tries : ℕ) (seat : Seat) (number : ℕ) (asked : Asked) → OwesBy IsOwed (first_call book tries seat number asked)
  -- a step at the directory, which may be its look
  pub directory :
      (short due : Bool) (c after : MachineOf) (d : Sealed) → OwesBy IsOwed c → need_of c.call ≡ need.Directory → after.call ≡ (stepped_at_directory short due c.call d.core).1 →
      after.asked ≡ c.asked → after.owed ≡ owed_by short d c → LookIsOwed IsOwed short c d → OwesBy IsOwed after
  -- a step at a server
  pub server :
      (short due : Bool) (c after : MachineOf) (j : ℕ) (s : Server) → OwesBy IsOwed c → need_of c.call ≡ need.Server j → after.call ≡ (stepped_at_server short due c.call s).1 →
      after.asked ≡ c.asked → after.owed ≡ c.owed → OwesBy IsOwed after
  -- a coding, in which memory was wanting or not
  pub coder :
      (short : Bool) (c after : MachineOf) → OwesBy IsOwed c → need_of c.call ≡ need.Coder → IsDueInPass c.call → after.call ≡ coded short c.call → after.asked ≡ c.asked →
      (short ≡ false → after.owed ≡ c.owed) → OwesBy IsOwed after
  -- and at its end what it is served is owed at its point
  pub served : (c : MachineOf) (place : ℕ) → OwesBy IsOwed c → act_of c.call ≡ Act.Finish (Outcome.Served place) → (machine_of c.asked ≡ Machine.Reads) × IsOwed place c.owed

-- these are among points and bytes that are owed there
abbrev pub AreAmong : List (ℕ × List ℕ) → ℕ → List ℕ → Type 0
AreAmong owed place bytes = Contains owed (place, bytes)

-- by any list of what is owed
abbrev pub CallsKeepOwing : Type 0
CallsKeepOwing = (owed : List (ℕ × List ℕ)) → KeepsOwing (AreAmong owed)
