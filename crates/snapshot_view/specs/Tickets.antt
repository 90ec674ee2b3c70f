-- The tickets with which a snapshot is taken, and which it holds.
use Rattle.std.specs.Prelude.{◌≡◌, ℕ, ◌≤◌, false, List, [], ◌∷◌, ◌++◌, map, None, All, AllPairs}
use Rattle.store_core.specs.Directory.{Pin, Pass, Directory}
use Rattle.store_core.specs.Lookups.{same_actor}
use Rattle.store_core.specs.Agreement.{HeldPass, ActorToken, Agrees}
use Rattle.store_core.specs.Tokens.{actor_of}
use Rattle.call_steps.specs.Callers.{IsClient}

-- the tickets are of different actors
abbrev pub AreApart : List ActorToken → Type 0
AreApart tokens = AllPairs (λ p q. same_actor p q ≡ false) (map actor_of tokens)

-- a directory agrees with tickets, which are of different actors
pub record AgreesWithAll (d : Directory) (tokens : List ActorToken) : Type 0 where
  pub each : All (Agrees d) tokens
  pub apart : AreApart tokens

-- they are of the same actors, in order
abbrev pub AreOfSame : List ActorToken → List ActorToken → Type 0
AreOfSame tokens now = map actor_of now ≡ map actor_of tokens

-- a ticket of none of their actors
abbrev pub IsNoneOf : List ActorToken → ActorToken → Type 0
IsNoneOf tokens token = All (λ who. same_actor who (actor_of token) ≡ false) (map actor_of tokens)

-- where a directory agreed with such a ticket, it agrees still
abbrev pub OthersAgree : List ActorToken → Directory → Directory → Type 0
OthersAgree tokens d after = (token : ActorToken) → IsNoneOf tokens token → Agrees d token → Agrees after token

-- the seat of a client that hasn't used the number
abbrev pub MayGet : ℕ → ActorToken → Type 0
MayGet number (ActorToken.Seated seat) = (seat.unused ≤ number) × IsClient seat.actor
MayGet number (ActorToken.InCall held) = ⊥

-- the pass of a call with the number that draws nothing, and that wasn't reaped when it began
pub record IsGetting (number : ℕ) (held : HeldPass) : Type 0 where
  pub its_number : held.pass.number ≡ number
  pub undrawn : held.pass.drawn ≡ []
  pub live : held.pass.reaped ≡ None

abbrev pub IsInCall : ℕ → ActorToken → Type 0
IsInCall number (ActorToken.Seated seat) = ⊥
IsInCall number (ActorToken.InCall held) = IsGetting number held

-- the passes that tickets hold, the last one's first
abbrev pub passes_in : List ActorToken → List Pass
passes_in [] = []
passes_in (ActorToken.Seated seat ∷ tokens) = passes_in tokens
passes_in (ActorToken.InCall held ∷ tokens) = passes_in tokens ++ held.pass ∷ []

-- what a pass pins
abbrev pub pins_of : ActorToken → List Pin
pins_of (ActorToken.Seated seat) = []
pins_of (ActorToken.InCall held) = held.pass.pinned
