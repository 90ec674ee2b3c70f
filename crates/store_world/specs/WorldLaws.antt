-- The same in a world that tokens of a valid script reach.
use Rattle.std.specs.Prelude.{◌≡◌, ℕ, List, Some}
use Rattle.std.specs.List.{slice_get}
use Rattle.clay_grid.specs.Limits.{IsGeometry}
use Rattle.store_map.specs.Naming.{IsValid}
use Rattle.store_map.specs.declared.actor.Actor.TheVariants as actor
use Rattle.store_map.specs.declared.script.ClientPart.{ClientPart}
use Rattle.store_map.specs.declared.script.Script.{Script}
use Rattle.store_core.specs.History.{call_of}
use Rattle.chunk_server.specs.State.{ServerState}
use Rattle.stripe_stamps.specs.Sealed.{Sealed}
use Rattle.stripe_stamps.specs.Stamped.{HaveContents}
use Rattle.world_laws.specs.World.{WorldOf}
use Rattle.world_laws.specs.Tokens.{KeepsToken}
use Rattle.world_laws.specs.Goes.{IsReached}
use Rattle.actors.specs.Callers.{PartOf, CallerOf}
use Rattle.actors.specs.CallerTurns.{MakesCallerTurn}
use Rattle.store_world.specs.OfMap.{IsOfMap}
use Rattle.store_world.specs.Serving.{ServesItsPins}

-- its directory is of the script, where the stamps have the contents
abbrev pub WorldsAreOfMap : Type 0
WorldsAreOfMap =
    (script : Script) (w : WorldOf) (d : Sealed) → IsGeometry script.geometry → IsValid script → IsReached script w → w.directory ≡ d.core → HaveContents (call_of script) d →
    IsOfMap script d

-- so a client's turn keeps it there
abbrev pub WorldsKeepServing : Type 0
WorldsKeepServing =
    (script : Script) (w : WorldOf) (i : ℕ) (a after : CallerOf) (d now : Sealed) (servers others : List ServerState) →
    IsGeometry script.geometry → IsValid script → IsReached script w → w.directory ≡ d.core → HaveContents (call_of script) d →
    (part : ClientPart) → a.part ≡ PartOf.OfClient part → slice_get script.clients i ≡ Some part → KeepsToken d.core (actor.Client i) a.actor → MakesCallerTurn script i a d servers after now others →
    ServesItsPins script d.core.points i a → ServesItsPins script now.core.points i after
