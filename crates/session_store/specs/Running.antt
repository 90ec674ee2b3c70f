-- A call that runs alone in a session's places.
use Rattle.std.specs.Prelude.{◌≡◌, ℕ, ◌+◌, ◌≤◌, ◌<◌, ◌^◌, false, List, [], replicate}
use Rattle.clay_grid.specs.Shape.{chunk_count}
use Rattle.store_core.specs.Act.{DirectoryStep}
use Rattle.store_core.specs.Agreement.{Seat, ActorToken, Agrees}
use Rattle.store_core.specs.AtDirectory.{at_directory}
use Rattle.store_core.specs.Calls.{Calls}
use Rattle.store_core.specs.Directory.{Directory}
use Rattle.store_core.specs.Lookups.{same_actor}
use Rattle.store_core.specs.Read.{parts_of}
use Rattle.store_core.specs.Step.{Shortage}
use Rattle.store_core.specs.Told.{Told, Seen}
use Rattle.store_core.specs.Tokens.{actor_of}
use Rattle.run_laws.specs.CallLeft.{call_left}
use Rattle.run_laws.specs.StepLaws.{HasTarget}
use Rattle.run_laws.specs.State.{State}
use Rattle.run_laws.specs.States.{open_call}
use Rattle.run_laws.specs.CallAfter.{state_of}
use Rattle.client_read.specs.Owed.{contents_of}
use Rattle.call_machine.specs.Calls.{MachineOf, KnowsOldOf, first_call}
use Rattle.call_machine.specs.Owes.{OwesBy}
use Rattle.call_machine.specs.OwesLaws.{AreAmong}
use Rattle.session_store.specs.AtWork.{HasRun, first_at}
use Rattle.session_rules.specs.Answering.{took}
use Rattle.run_laws.specs.PinLaws.{IsReading}
use Rattle.session_store.specs.declared.places.SessionPlaces.{SessionPlaces}
use Rattle.session_store.specs.Places.{ArePlaces, AreSame, seen_in}
use Rattle.session_store.specs.CallBytes.{KnowsBytes}

-- the steps that it has left at most by what it was told, where an object has at most so many bytes
abbrev pub left_of : ℕ → MachineOf → List Told → ℕ
left_of max c told = call_left c.call.book.geometry max c.call.tries c.call.job told

-- a call before its first step, that may run in these places
pub record MayRun (c : MachineOf) (p : SessionPlaces) : Type 0 where
  pub places : ArePlaces p
  pub seat : Seat
  pub tries : ℕ
  pub first : c ≡ first_call p.book tries seat c.call.number c.asked
  pub unused : seat.unused ≤ c.call.number
  pub agrees : Agrees p.directory.core (ActorToken.Seated seat)
  pub calls : Calls
  pub bytes : KnowsBytes calls c p
  pub target : HasTarget p.book.geometry c.call.job
  pub few : left_of p.directory.core.max c [] < 2 ^ 64

-- what the call's look at the directory is told is owed by the stamps
abbrev pub LookOwes : List (ℕ × List ℕ) → MachineOf → SessionPlaces → Type 0
LookOwes owed c p =
    (point length_now : ℕ) (seen : List Seen) →
    (at_directory false (actor_of c.call.token) c.call.number (DirectoryStep.Look c.call.job.note) p.directory.core).1
    ≡ Told.Pinned point length_now seen →
    AreAmong owed point (contents_of p.directory.stamps (parts_of p.book.geometry c.call.job.note length_now seen))

-- a directory agrees with the tickets of all others with which one agreed
abbrev pub OthersAgree : MachineOf → Directory → Directory → Type 0
OthersAgree c d now =
    (token : ActorToken) → same_actor (actor_of c.call.token) (actor_of token) ≡ false → Agrees d token → Agrees now token

-- a seat has used no number past this one, and a pass is of the call with it
abbrev pub IsLow : ℕ → ActorToken → Type 0
IsLow number (ActorToken.Seated seat) = seat.unused ≤ number + 1
IsLow number (ActorToken.InCall held) = held.pass.number ≡ number

-- the call has come from its first value and from these places to its present one and to those
pub record HasRunTo (first : MachineOf) (before : SessionPlaces) (c : MachineOf) (now : SessionPlaces) : Type 0 where
  pub shortages : List Shortage
  pub run :
      HasRun before.book.geometry first.call.tries (actor_of first.call.token) first.call.number first.call.job shortages (seen_in before) c.call
      (seen_in now)
  pub same : AreSame before now
  pub book : c.call.book ≡ before.book
  pub most : now.directory.core.max ≡ before.directory.core.max
  pub asked : c.asked ≡ first.asked
  pub uncoded : c.call.coding ≡ false
  pub low : IsLow first.call.number c.call.token
  pub agrees : Agrees now.directory.core c.call.token
  pub others : OthersAgree first before.directory.core now.directory.core
  pub bytes : (calls : Calls) → KnowsBytes calls first before → KnowsBytes calls c now
  pub owes : (owed : List (ℕ × List ℕ)) → LookOwes owed first before → OwesBy (AreAmong owed) c
  pub knows : KnowsOldOf now.directory c
  pub takes :
      c.call.takes
      ≡ took before.book.geometry first.call.tries (actor_of first.call.token) first.call.number first.call.job shortages (first_at (seen_in before))
      (replicate (chunk_count before.book.geometry) 0)

-- so it has after so many of its steps, and has so many fewer left; a call that reads and still has to look is where it was
pub record RunsOn (first : MachineOf) (before : SessionPlaces) (c : MachineOf) (now : SessionPlaces) (made : ℕ) : Type 0 where
  pub ran : HasRunTo first before c now
  pub told : List Told
  pub state : c.call.state ≡ open_call before.book.geometry (state_of before.book.geometry first.call.job told)
  pub left : left_of before.directory.core.max first told + made ≤ left_of before.directory.core.max first []
  pub looks : IsReading first.call.job.note.kind → c.call.state.at ≡ State.Start → now.directory ≡ before.directory
