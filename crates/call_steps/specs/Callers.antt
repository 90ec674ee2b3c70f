-- Who makes a call, and when it may begin.
use Rattle.std.specs.Prelude.{◌≡◌, ⊤, ℕ, ◌≤◌, Some, IfSome}
use Rattle.store_map.specs.declared.actor.Actor.{Actor}
use Rattle.store_map.specs.declared.actor.Actor.TheVariants as actor
use Rattle.store_map.specs.declared.call.Call.{Call}
use Rattle.store_core.specs.Agreement.{ActorToken}
use Rattle.store_core.specs.History.{call_of}
use Rattle.version_seal.specs.Entry.{BookOf}

-- a client
abbrev pub IsClient : Actor → Type 0
IsClient (actor.Client i) = ⊤
IsClient who = ⊥

-- in a book with a script the call is the script's
abbrev pub IsOfScript : BookOf → Actor → ℕ → Call → Type 0
IsOfScript book who number written = IfSome book.script (λ script. call_of script who number ≡ Some written)

-- the ticket before a look: a seat under which the call's number is unused
abbrev pub IsWaiting : ℕ → ActorToken → Type 0
IsWaiting number (ActorToken.Seated seat) = seat.unused ≤ number
IsWaiting number (ActorToken.InCall held) = ⊥
