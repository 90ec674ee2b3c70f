-- The tickets of a world's actors, and that the directory agrees with all of them.
use Rattle.std.specs.Prelude.{◌≡◌, ℕ, ◌+◌, ◌<◌, ◌≤◌, List, length, None, Some}
use Rattle.std.specs.List.{slice_get}
use Rattle.store_map.specs.declared.actor.Actor.{Actor}
use Rattle.store_map.specs.declared.actor.Actor.TheVariants as actor
use Rattle.store_core.specs.Agreement.{ActorToken, Agrees}
use Rattle.store_core.specs.Directory.{Directory}
use Rattle.store_core.specs.Tokens.{actor_of}
use Rattle.store_core.specs.Work.{Ended}
use Rattle.world_laws.specs.World.{DoingOf, ActorOf, WorldOf}

-- an actor's ticket; in a call it is that of its machine
abbrev pub token_of : DoingOf → ActorToken
token_of (DoingOf.Between token) = token
token_of (DoingOf.InCall call steps) = call.token

-- the numbers that the ticket's actor has used are below this one
abbrev pub IsUsedBelow : ℕ → ActorToken → Type 0
IsUsedBelow number (ActorToken.Seated seat) = seat.unused ≤ number
IsUsedBelow number (ActorToken.InCall held) = held.pass.number < number

-- a call in work has the next number, and uses no later one
pub record IsNext (ended : List Ended) (number : ℕ) (token : ActorToken) : Type 0 where
  pub next : number ≡ length ended
  pub used : IsUsedBelow (length ended + 1) token

-- an actor's calls are numbered by how many have ended before; between two calls the next number is unused
abbrev pub AreNumbered : List Ended → DoingOf → Type 0
AreNumbered ended (DoingOf.Between token) = IsUsedBelow (length ended) token
AreNumbered ended (DoingOf.InCall call steps) = IsNext ended call.number call.token

-- the ticket is this actor's, the directory agrees with it, and the numbers of its calls fit
pub record KeepsToken (d : Directory) (who : Actor) (a : ActorOf) : Type 0 where
  pub whose : actor_of (token_of a.doing) ≡ who
  pub agrees : Agrees d (token_of a.doing)
  pub numbered : AreNumbered a.ended a.doing

-- so do all actors of a world
pub record TokensAgree (w : WorldOf) : Type 0 where
  pub clients : (i : ℕ) (a : ActorOf) → slice_get w.clients i ≡ Some a → KeepsToken w.directory (actor.Client i) a
  pub repairers : (i : ℕ) (a : ActorOf) → slice_get w.repairers i ≡ Some a → KeepsToken w.directory (actor.Repairer i) a

-- the ticket of an actor that has made no call
abbrev pub first_token : Actor → ActorToken
first_token who = ActorToken.Seated (record { actor = who; unused = 0; told = None })
