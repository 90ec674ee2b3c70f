-- How a caller's next call begins.
use Rattle.std.specs.Prelude.{◌≡◌, ℕ, ◌<◌, ◌≤◌, length, Some}
use Rattle.clay_grid.specs.Shape.{chunk_count}
use Rattle.store_map.specs.declared.actor.Actor.TheVariants as actor
use Rattle.store_core.specs.Agreement.{Seat}
use Rattle.store_core.specs.Tokens.{actor_of}
use Rattle.version_seal.specs.Entry.{BookOf}
use Rattle.call_steps.specs.Callers.{IsOfScript}
use Rattle.call_machine.specs.Kinds.{Asked, client_machine, IfPatches, IfDraws}
use Rattle.call_machine.specs.Calls.{MachineOf, first_call}
use Rattle.world_laws.specs.Tokens.{token_of, AreNumbered}
use Rattle.actors.specs.Callers.{PartOf, CallerOf, calls_of, who_of, asked_at, IsPartOf}

-- what may be asked under this number by the actor at this place: a client's call is tried, and is the script's where it may draw; a rebuild is of a server that is there
abbrev pub MayBeAsked : BookOf → ℕ → ℕ → ℕ → Asked → Type 0
MayBeAsked book tries place number (Asked.OfClient call) =
    IfPatches (client_machine call) (0 < tries) × IfDraws (client_machine call) (IsOfScript book (actor.Client place) number call)
MayBeAsked book tries place number (Asked.OfRepairer rebuild) = rebuild.server < chunk_count book.geometry

-- a seat with which the part's call of this number may begin
pub record MayTake (book : BookOf) (tries place number : ℕ) (part : PartOf) (seat : Seat) : Type 0 where
  pub asked : Asked
  pub next : asked_at part number ≡ Some asked
  pub own : seat.actor ≡ who_of part place
  pub unused : seat.unused ≤ number
  pub may : MayBeAsked book tries place number asked

-- that call before its first step
pub record HasBegun (book : BookOf) (tries number : ℕ) (part : PartOf) (seat : Seat) (now : MachineOf) : Type 0 where
  pub asked : Asked
  pub next : asked_at part number ≡ Some asked
  pub first : now ≡ first_call book tries seat number asked

-- a caller at its place of the script with a call left, whose ticket is its own and whose calls are numbered
pub record MayGoOn (place : ℕ) (a : CallerOf) : Type 0 where
  pub next : length a.actor.ended < calls_of a.part
  pub part : IsPartOf a.book place a.part
  pub whose : actor_of (token_of a.actor.doing) ≡ who_of a.part place
  pub numbered : AreNumbered a.actor.ended a.actor.doing
