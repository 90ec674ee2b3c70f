-- The fields of a caller as the layers above see them, and what they keep.
use Rattle.std.specs.Prelude.{◌≡◌, ⊤, ℕ, ◌<◌, ◌≤◌, ◌^◌, List, length, map, Option, None, Some, IfSome, All, vec_capacity}
use Rattle.clay_grid.specs.Shape.{chunk_count}
use Rattle.store_map.specs.declared.actor.Actor.TheVariants as actor
use Rattle.store_core.specs.Agreement.{Seat, ActorToken}
use Rattle.version_seal.specs.Entry.{BookOf}
use Rattle.call_steps.specs.Steps.{need_of}
use Rattle.call_machine.specs.Calls.{MachineOf}
use Rattle.call_steps.specs.declared.caller_calls.EndedCall.{EndedCall}
use Rattle.call_steps.specs.CallerCalls.{ended_of}
use Rattle.world_laws.specs.Served.{bytes_in}
use Rattle.world_laws.specs.World.{DoingOf}
use Rattle.call_machine.specs.Going.{GoesOn}
use Rattle.actors.specs.Callers.{PartOf, CallerOf, calls_of, asked_at}
use Rattle.actors.specs.declared.part.CallerPart.{CallerPart}
use Rattle.actors.specs.declared.part.CallerPart.TheVariants as part
use Rattle.actors.specs.declared.caller.Caller.TheInside.{Inside}

-- its calls
abbrev pub part_by : CallerPart → PartOf
part_by (part.Client calls) = PartOf.OfClient calls.now
part_by (part.Repairer calls) = PartOf.OfRepairer calls.now

-- what it does: it has a seat, or a call in work; without either, which doesn't come, anything
abbrev pub doing_by : Option Seat → Option MachineOf → ℕ → DoingOf
doing_by seat (Some call) steps = DoingOf.InCall call.call steps
doing_by (Some seat) None steps = DoingOf.Between (ActorToken.Seated seat)
doing_by None None steps = DoingOf.Between (ActorToken.Seated (record { actor = actor.Sweeper; unused = 0; told = None }))

-- the bytes that calls were served
abbrev pub served_of : List EndedCall → List (Option (List ℕ))
served_of ended = map (λ call. bytes_in call.outcome) ended

-- what the layers above see of its fields
abbrev pub caller_by : PartOf → BookOf → ℕ → List EndedCall → Option Seat → Option MachineOf → ℕ → CallerOf
caller_by part book tries ended seat call steps =
    record {
      part = part;
      book = book;
      tries = tries;
      actor = record { ended = map (ended_of (chunk_count book.geometry)) ended; doing = doing_by seat call steps };
      work = call;
      served = served_of ended;
    }

abbrev pub caller_in : Inside → CallerOf
caller_in a = caller_by (part_by a.part) a.opening a.tries a.ended.items a.seat a.call a.steps

-- a call in work is the next one of the part, of the book, isn't over, and counts what it takes from each server
pub record IsInWork (book : BookOf) (part : PartOf) (number : ℕ) (c : MachineOf) : Type 0 where
  pub asked : asked_at part number ≡ Some c.asked
  pub its : c.call.book ≡ book
  pub servers : length c.call.takes ≡ chunk_count book.geometry
  pub goes : GoesOn (need_of c.call)

-- a seat, or a call in work and no seat
abbrev pub HasEither : Option Seat → Option MachineOf → Type 0
HasEither (Some seat) None = ⊤
HasEither None (Some call) = ⊤
HasEither seat call = ⊥

-- rebuilds are of servers that are there
abbrev pub AreOfServers : BookOf → PartOf → Type 0
AreOfServers book (PartOf.OfClient part) = ⊤
AreOfServers book (PartOf.OfRepairer part) = All (λ rebuild. rebuild.server < chunk_count book.geometry) part.calls

-- what every caller keeps; there is room for the ends of all its calls
pub record IsCaller (a : Inside) : Type 0 where
  pub either : HasEither a.seat a.call
  pub kept : IfSome a.call (IsInWork a.opening (part_by a.part) (length a.ended.items))
  pub few : calls_of (part_by a.part) < 2 ^ 32
  pub tries : 0 < a.tries
  pub below : AreOfServers a.opening (part_by a.part)
  pub room : calls_of (part_by a.part) ≤ vec_capacity a.ended
