-- A put in work at a directory and its servers, while another client waits.
use Rattle.std.specs.Prelude.{◌≡◌, ℕ, List, None, All}
use Rattle.store_map.specs.declared.actor.Actor.TheVariants as actor
use Rattle.store_core.specs.Agreement.{ActorToken, Agrees, AgreesWithSeat}
use Rattle.store_core.specs.Tokens.{actor_of}
use Rattle.version_seal.specs.Entry.{BookOf}
use Rattle.chunk_server.specs.State.{ServerState}
use Rattle.stripe_stamps.specs.Sealed.{Sealed}
use Rattle.stripe_dir.specs.Seats.{client_seat}
use Rattle.call_steps.specs.CallOf.{CallOf}

-- directory and call are of one book without a script; client 0 has made the call, and client 1 waits
pub record IsWalk (book : BookOf) (sealed : Sealed) (call : CallOf) : Type 0 where
  pub free : book.script ≡ None
  pub directory : sealed.book ≡ book
  pub of_book : call.book ≡ book
  pub agrees : Agrees sealed.core call.token
  pub first : actor_of call.token ≡ actor.Client 0
  pub waits : AgreesWithSeat sealed.core (client_seat 1)

-- the servers are of the book
abbrev pub AreOf : BookOf → List ServerState → Type 0
AreOf book servers = All (λ server. server.book ≡ book) servers

-- a call keeps its book and its ticket
pub record KeepsTicket (call now : CallOf) : Type 0 where
  pub book : now.book ≡ call.book
  pub token : now.token ≡ call.token

-- a directory agrees with each client's ticket with which it agreed before
pub record AgreesStill (sealed after : Sealed) : Type 0 where
  pub book : after.book ≡ sealed.book
  pub agrees : (i : ℕ) (token : ActorToken) → actor_of token ≡ actor.Client i → Agrees sealed.core token → Agrees after.core token
