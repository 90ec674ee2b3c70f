-- What an actor knows of itself between its steps.
use Rattle.std.specs.Prelude.{◌≡◌, ℕ, ◌+◌, ◌≤◌, Bool, true, false, [], length, Option, None}
use Rattle.clay_grid.specs.Shape.{Shape}
use Rattle.store_map.specs.declared.actor.Actor.{Actor}
use Rattle.store_map.specs.declared.actor.Actor.TheVariants as actor
use Rattle.store_core.specs.Look.{stripes_between}
use Rattle.store_core.specs.Directory.{Directory}
use Rattle.store_core.specs.Lookups.{same_actor}
use Rattle.store_core.specs.Agreement.{HeldPass, ActorToken, Agrees}
use Rattle.store_core.specs.Tokens.{actor_of, IsToWrite}
use Rattle.version_seal.specs.Entry.{BookOf, RequestOf}
use Rattle.stripe_stamps.specs.Sealed.{Sealed, CanSeal}
use Rattle.dir_walks.specs.declared.test_stage.WalkStage.{WalkStage}
use Rattle.dir_walks.specs.declared.test_stage.WalkStage.TheVariants as stage

-- an actor, its ticket and where it is; the number of its last call, the least one that is unused, how many versions it has drawn, and its put or write
pub record CallerOf : Type 0 where
  pub who : Actor
  pub token : ActorToken
  pub stage : WalkStage
  pub number : ℕ
  pub unused : ℕ
  pub drawn : ℕ
  pub request : Option RequestOf

-- a pass that may draw
pub record IsBegun (book : BookOf) (c : CallerOf) (held : HeldPass) : Type 0 where
  pub numbered : held.pass.number ≡ c.number
  pub writes : IsToWrite held
  pub undrawn : held.pass.drawn ≡ []
  pub seals : CanSeal book held.pass c.request

-- a pass whose versions may be committed: one for each stripe that its call touches
pub record IsDrawn (g : Shape) (c : CallerOf) (held : HeldPass) : Type 0 where
  pub numbered : held.pass.number ≡ c.number
  pub writes : IsToWrite held
  pub touched : length held.pass.drawn ≡ length (stripes_between g held.pass.note.offset (held.pass.note.offset + held.pass.note.length))
  pub counted : c.drawn ≡ length held.pass.drawn

-- the ticket is one of the stage
abbrev pub IsAt : BookOf → CallerOf → WalkStage → ActorToken → Type 0
IsAt book c stage.Seated (ActorToken.Seated seat) = seat.unused ≤ c.unused
IsAt book c stage.Reading (ActorToken.InCall held) = held.pass.number ≡ c.number
IsAt book c stage.Begun (ActorToken.InCall held) = IsBegun book c held
IsAt book c stage.Drawn (ActorToken.InCall held) = IsDrawn book.geometry c held
IsAt book c stage token = ⊥

-- the directory agrees with the actor
pub record IsRight (s : Sealed) (c : CallerOf) : Type 0 where
  pub agrees : Agrees s.core c.token
  pub its : actor_of c.token ≡ c.who
  pub at : IsAt s.book c c.stage c.token

-- so that it may make a step, in a book without a script
pub record IsReady (book : BookOf) (s : Sealed) (c : CallerOf) : Type 0 where
  pub same_book : book ≡ s.book
  pub free : book.script ≡ None
  pub right : IsRight s c

-- where the directory agreed with another actor's ticket, it agrees still
abbrev pub OthersAgree : Actor → Directory → Directory → Type 0
OthersAgree who d after = (token : ActorToken) → same_actor who (actor_of token) ≡ false → Agrees d token → Agrees after token

-- an actor and the directory before and after its step
pub record Steps (s : Sealed) (c : CallerOf) (after : Sealed) (now : CallerOf) : Type 0 where
  pub right : IsRight after now
  pub same : now.who ≡ c.who
  pub book : after.book ≡ s.book
  pub others : OthersAgree c.who s.core after.core

abbrev pub is_client : Actor → Bool
is_client (actor.Client i) = true
is_client who = false

abbrev pub is_seated : WalkStage → Bool
is_seated stage.Seated = true
is_seated its = false
