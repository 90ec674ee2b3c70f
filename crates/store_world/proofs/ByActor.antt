-- A world's callers by who they are.
use Rattle.std.specs.Prelude.{ℕ, List, [], ⊤}
use Rattle.store_map.specs.declared.actor.Actor.{Actor}
use Rattle.store_map.specs.declared.actor.Actor.TheVariants as actor
use Rattle.store_map.specs.declared.actor.Token.{Token}
use Rattle.store_map.specs.declared.actor.Token.TheVariants as token
use Rattle.actors.specs.Callers.{CallerOf}
use Rattle.store_world.specs.Stored.{StoredWorld}

-- a client or a repairer
abbrev pub IsCaller : Actor → Type 0
IsCaller (actor.Client i) = ⊤
IsCaller (actor.Repairer i) = ⊤
IsCaller actor.Sweeper = ⊥
IsCaller actor.Operator = ⊥

-- the token of a caller's turn (of no other actor it is asked)
abbrev pub turn_token : Actor → Token
turn_token (actor.Client i) = token.Client i
turn_token (actor.Repairer i) = token.Repairer i
turn_token actor.Sweeper = token.Sweep
turn_token actor.Operator = token.Sweep

-- the list that has the caller, and its place there (of no other actor they are asked)
abbrev pub list_of : Actor → StoredWorld → List CallerOf
list_of (actor.Client i) s = s.clients
list_of (actor.Repairer i) s = s.repairers
list_of actor.Sweeper s = []
list_of actor.Operator s = []

abbrev pub place_of : Actor → ℕ
place_of (actor.Client i) = i
place_of (actor.Repairer i) = i
place_of actor.Sweeper = 0
place_of actor.Operator = 0
