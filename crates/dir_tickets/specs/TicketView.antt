-- A ticket as the definitions see it.
use Rattle.std.specs.Prelude.{◌≡◌, Option, None, Some, is_some, IsTrue, ⊤}
use Rattle.store_map.specs.declared.actor.Actor.TheVariants as actor
use Rattle.store_core.specs.Agreement.{HeldPass, ActorToken}
use Rattle.version_seal.specs.Entry.{BookOf, RequestOf}
use Rattle.stripe_stamps.specs.Sealed.{CanSeal}
use Rattle.dir_tickets.specs.declared.ticket.Held.{Held}
use Rattle.dir_tickets.specs.declared.ticket.Held.TheVariants as held
use Rattle.dir_tickets.specs.declared.ticket.Ticket.TheInside.{Inside}

-- a seat or a pass
abbrev pub token_of : Held → ActorToken
token_of (held.Seat seat) = ActorToken.Seated seat
token_of (held.Pass pass) = ActorToken.InCall pass

-- of an empty place, which stands only inside a step, any ticket
abbrev pub token_at : Option Held → ActorToken
token_at (Some held) = token_of held
token_at None = ActorToken.Seated (record { actor = actor.Sweeper; unused = 0; told = None })

abbrev pub token_in : Inside → ActorToken
token_in a = token_at a.held

-- it is there
abbrev pub IsThere : Inside → Type 0
IsThere a = IsTrue (is_some a.held)

-- the actor's call has begun
abbrev pub IsInCall : ActorToken → Type 0
IsInCall (ActorToken.Seated seat) = ⊥
IsInCall (ActorToken.InCall held) = ⊤

-- where it is a pass, its call can be sealed
abbrev pub CanSealFor : BookOf → ActorToken → Option RequestOf → Type 0
CanSealFor book token request = (held : HeldPass) → token ≡ ActorToken.InCall held → CanSeal book held.pass request
