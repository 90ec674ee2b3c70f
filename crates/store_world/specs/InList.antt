-- A turn of the caller at a place of its list.
use Rattle.std.specs.Prelude.{◌≡◌, ℕ, ◌+◌, ◌^◌, ◌<◌, true, false, List, length, set, Option, None, Some}
use Rattle.std.specs.List.{slice_get}
use Rattle.store_map.specs.declared.script.Script.{Script}
use Rattle.version_seal.specs.Entry.{BookOf}
use Rattle.chunk_server.specs.State.{ServerState}
use Rattle.stripe_stamps.specs.Sealed.{Sealed}
use Rattle.call_steps.specs.declared.step_made.Step.{Step}
use Rattle.world_laws.specs.World.{steps_of}
use Rattle.world_laws.specs.Tokens.{KeepsToken}
use Rattle.actors.specs.Turns.{AreServers}
use Rattle.actors.specs.Callers.{CallerOf, IsOfScript, IsPartOf, Knows, calls_of, who_of}
use Rattle.actors.specs.CallerTurns.{HasMore, TellsCallerTurn}
use Rattle.store_world.specs.Having.{caller_has}

-- what a turn asks of a caller
pub record MayTurn (d : Sealed) (book : BookOf) (servers : List ServerState) (i : ℕ) (c : CallerOf) : Type 0 where
  pub keeps : KeepsToken d.core (who_of c.part i) c.actor
  pub next : length c.actor.ended < calls_of c.part
  pub steps : steps_of c.actor.doing + 1 < 2 ^ 64
  pub its : d.book ≡ c.book
  pub same_book : book ≡ c.book
  pub part : IsPartOf c.book i c.part
  pub held : AreServers c.book servers
  pub knows : Knows d c

-- it may, where it has a step
pub record ReadyAt (d : Sealed) (book : BookOf) (servers : List ServerState) (i : ℕ) (c : CallerOf) : Type 0 where
  pub script : Script
  pub code : c.book.geometry ≡ script.geometry
  pub may : caller_has script c ≡ true → MayTurn d book servers i c

-- the caller is there and has made its turn
pub record HasTurned (i : ℕ) (callers : List CallerOf) (d : Sealed) (servers : List ServerState) (step : Step) (after : List CallerOf) (now : Sealed) (others : List ServerState) : Type 0 where
  pub c : CallerOf
  pub c' : CallerOf
  pub there : slice_get callers i ≡ Some c
  pub are : after ≡ set callers i c'
  pub has : (script : Script) → c.book.geometry ≡ script.geometry → true ≡ caller_has script c
  pub turn : (script : Script) → IsOfScript script c → caller_has script c ≡ true → TellsCallerTurn script i c d servers c' now others step
  pub same : c' ≡ record c { actor = c'.actor; work = c'.work; served = c'.served }
  pub knows : Knows now c'
  pub book : now.book ≡ d.book
  pub stamps : HasMore d.stamps now.stamps
  pub held : AreServers c.book others

-- none is there, or it has no step
pub record HasNone (i : ℕ) (callers : List CallerOf) (d : Sealed) (servers : List ServerState) (after : List CallerOf) (now : Sealed) (others : List ServerState) : Type 0 where
  pub callers_stay : after ≡ callers
  pub directory_stays : now ≡ d
  pub servers_stay : others ≡ servers
  pub none : (script : Script) (c : CallerOf) → slice_get callers i ≡ Some c → c.book.geometry ≡ script.geometry → false ≡ caller_has script c

abbrev pub TurnedIn : ℕ → List CallerOf → Sealed → List ServerState → Option Step → List CallerOf → Sealed → List ServerState → Type 0
TurnedIn i callers d servers None after now others = HasNone i callers d servers after now others
TurnedIn i callers d servers (Some step) after now others = HasTurned i callers d servers step after now others
