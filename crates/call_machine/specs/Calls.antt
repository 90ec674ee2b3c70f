-- A call in work of any kind, as callers see it.
use Rattle.std.specs.Prelude.{◌≡◌, ⊤, ℕ, Bool, false, List, [], ◌++◌, replicate}
use Rattle.clay_grid.specs.Shape.{chunk_count}
use Rattle.store_map.specs.declared.call.Call.{Call}
use Rattle.store_core.specs.Agreement.{Seat, ActorToken}
use Rattle.run_laws.specs.State.{first_state}
use Rattle.version_seal.specs.Entry.{BookOf, StampOf}
use Rattle.stripe_stamps.specs.Sealed.{Sealed}
use Rattle.call_steps.specs.CallOf.{CallOf, tries_by}
use Rattle.client_read.specs.Owed.{owed_after}
pub use Rattle.client_read.specs.Owed.{owed_by as read_by}
use Rattle.client_patch.specs.Patches.{PatchOf, stamps_drawn}
pub use Rattle.client_patch.specs.Patches.{stamps_by}
pub use Rattle.client_patch.specs.Padded.{ArePadded}
use Rattle.client_patch.specs.Known.{KnowsOld}
use Rattle.call_machine.specs.Kinds.{Asked, asked_job, Machine, client_machine, machine_of, IfPatches}

-- the call, what is asked, the bytes that it reads, and of a write its object's size at the last look and the old bytes that it keeps
pub record MachineOf : Type 0 where
  pub call : CallOf
  pub asked : Asked
  pub owed : List ℕ
  pub size : ℕ
  pub kept : List ℕ

-- how often a call is tried: a write or a delete so often, another one as its book's script says
abbrev pub tries_in : Machine → ℕ → BookOf → ℕ
tries_in Machine.Patches tries book = tries
tries_in machine tries book = tries_by book.script

-- a call before its first step
abbrev pub first_call : BookOf → ℕ → Seat → ℕ → Asked → MachineOf
first_call book tries seat number asked =
    record {
      call = record {
        book = book;
        tries = tries_in (machine_of asked) tries book;
        job = asked_job asked;
        number = number;
        token = ActorToken.Seated seat;
        state = first_state;
        takes = replicate (chunk_count book.geometry) 0;
        due = false;
        coding = false;
        step = false;
      };
      asked = asked;
      owed = [];
      size = 0;
      kept = [];
    }

-- a client's call as the machine of writes and deletes shows it
abbrev pub patch_of : MachineOf → Call → PatchOf
patch_of c written = record { call = c.call; written = written; size = c.size; kept = c.kept }

-- the stamps that its next step draws, in which memory is wanting or not
abbrev pub drawn_in : Machine → Bool → Sealed → MachineOf → Call → List StampOf
drawn_in Machine.Puts short d c written = stamps_drawn short d c.call written
drawn_in Machine.Patches short d c written = stamps_drawn short d c.call written
drawn_in machine short d c written = []

abbrev pub drawn_for : Asked → Bool → Sealed → MachineOf → List StampOf
drawn_for (Asked.OfClient written) short d c = drawn_in (client_machine written) short d c written
drawn_for (Asked.OfRepairer rebuild) short d c = []

abbrev pub drawn_by : Bool → Sealed → MachineOf → List StampOf
drawn_by short d c = drawn_for c.asked short d c

-- the bytes that it reads after its next step
abbrev pub owed_in : Machine → Bool → Sealed → MachineOf → List ℕ
owed_in Machine.Reads short d c = owed_after short c.call d c.owed
owed_in machine short d c = c.owed

abbrev pub owed_by : Bool → Sealed → MachineOf → List ℕ
owed_by short d c = owed_in (machine_of c.asked) short d c

-- a write knows the old bytes that it keeps, by a directory's stamps
abbrev pub KnowsFor : Asked → Sealed → MachineOf → Type 0
KnowsFor (Asked.OfClient written) d c = IfPatches (client_machine written) (KnowsOld d (patch_of c written))
KnowsFor (Asked.OfRepairer rebuild) d c = ⊤

abbrev pub KnowsOldOf : Sealed → MachineOf → Type 0
KnowsOldOf d c = KnowsFor c.asked d c

-- more stamps change nothing of it
abbrev pub MoreStampsAreKnown : Type 0
MoreStampsAreKnown = (d now : Sealed) (more : List StampOf) (c : MachineOf) → now.stamps ≡ d.stamps ++ more → KnowsOldOf d c → KnowsOldOf now c

-- before its first step a call keeps none
abbrev pub FirstCallsKnow : Type 0
FirstCallsKnow = (d : Sealed) (book : BookOf) (tries : ℕ) (seat : Seat) (number : ℕ) (asked : Asked) → KnowsOldOf d (first_call book tries seat number asked)
