-- That clients serve what their looks have pinned, from a world's first step to its last.
use Rattle.std.specs.Prelude.{◌≡◌, ℕ, Bool, List, ◌++◌, map, Some}
use Rattle.std.specs.List.{slice_get}
use Rattle.store_map.specs.Limits.{size_of}
use Rattle.store_map.specs.declared.actor.Actor.{Actor}
use Rattle.store_map.specs.declared.actor.Actor.TheVariants as actor
use Rattle.store_map.specs.declared.reply.Reply.TheVariants as reply
use Rattle.store_map.specs.declared.script.ClientPart.{ClientPart}
use Rattle.store_map.specs.declared.script.Script.{Script}
use Rattle.store_core.specs.Act.{DirectoryStep, Outcome}
use Rattle.store_core.specs.Agreement.{Seat}
use Rattle.store_core.specs.AtDirectory.{at_directory}
use Rattle.store_core.specs.Directory.{Point, Directory}
use Rattle.store_core.specs.History.{call_of}
use Rattle.store_core.specs.Step.{Places}
use Rattle.store_core.specs.Work.{Work}
use Rattle.version_seal.specs.Entry.{BookOf}
use Rattle.chunk_server.specs.State.{ServerState}
use Rattle.stripe_stamps.specs.Sealed.{Sealed}
use Rattle.sweeper.specs.Sweeps.{SweeperOf, stepped_at_directory}
use Rattle.call_steps.specs.declared.caller_calls.CallerCalls.{CallerCalls}
use Rattle.call_steps.specs.CallerCalls.{ended_of}
use Rattle.world_laws.specs.Served.{outcome_at, bytes_at, owed_at}
use Rattle.world_laws.specs.World.{ActorOf}
use Rattle.world_laws.specs.Tokens.{KeepsToken}
use Rattle.actors.specs.Callers.{PartOf, CallerOf, first_caller}
use Rattle.actors.specs.CallerTurns.{MakesCallerTurn}
use Rattle.actors.specs.Inside.{served_of}
use Rattle.actors.specs.Turned.{MakesTurn}
use Rattle.store_world.specs.OfMap.{IsOfMap}
use Rattle.store_world.specs.Serving.{ServesItsPins}

-- a history that has grown
pub record HasMorePoints (before after : List Point) : Type 0 where
  pub more : List Point
  pub is : after ≡ before ++ more

-- so it does in each step at the directory, in each actor's turn and in each of the sweeper's
pub record HistoriesGrow : Type 0 where
  pub step : (short : Bool) (who : Actor) (number : ℕ) (step : DirectoryStep) (d : Directory) → HasMorePoints d.points (at_directory short who number step d).0.points
  pub turn :
      (script : Script) (who : Actor) (work : Work) (a after : ActorOf) (p q : Places) → MakesTurn script who work a p after q →
      HasMorePoints p.directory.points q.directory.points
  pub sweep : (who : Actor) (number : ℕ) (sweeper : SweeperOf) (d : Directory) → HasMorePoints d.points (stepped_at_directory who number sweeper d).0.points

-- a client before its first call does, and as the history grows it goes on so
pub record ClientsGoOnServing (script : Script) : Type 0 where
  pub first : (points : List Point) (i : ℕ) (part : ClientPart) (book : BookOf) (tries : ℕ) (seat : Seat) → ServesItsPins script points i (first_caller (PartOf.OfClient part) book tries seat)
  pub stays : (points now : List Point) (i : ℕ) (a : CallerOf) → HasMorePoints points now → ServesItsPins script points i a → ServesItsPins script now i a

-- at a directory of the script, a client's turn keeps it
abbrev pub TurnsKeepServing : Type 0
TurnsKeepServing =
    (script : Script) (i : ℕ) (a after : CallerOf) (d now : Sealed) (servers others : List ServerState) → IsOfMap script d →
    (part : ClientPart) → a.part ≡ PartOf.OfClient part → slice_get script.clients i ≡ Some part → KeepsToken d.core (actor.Client i) a.actor → MakesCallerTurn script i a d servers after now others →
    ServesItsPins script d.core.points i a → ServesItsPins script now.core.points i after

-- the calls of a client at the end of a run, where there are so many servers
pub record HasCalls (servers : ℕ) (calls : CallerCalls) (a : CallerOf) : Type 0 where
  pub ended : a.actor.ended ≡ map (ended_of servers) calls.ended.items
  pub served : a.served ≡ served_of calls.ended.items

-- at the end what calls were served is the map's reply at their points
abbrev pub ServedIsOwed : Type 0
ServedIsOwed =
    (script : Script) (points : List Point) (servers : ℕ) (clients : List CallerOf) (calls : List CallerCalls) →
    ((i : ℕ) (a : CallerOf) → slice_get clients i ≡ Some a → ServesItsPins script points i a) →
    ((i : ℕ) (of : CallerCalls) → slice_get calls i ≡ Some of → (a : CallerOf) × (slice_get clients i ≡ Some a) × HasCalls servers of a) →
    (place i number : ℕ) (bytes : List ℕ) → outcome_at calls i number ≡ Some (Outcome.Served place) → bytes_at calls i number ≡ Some bytes →
    owed_at (size_of script) (call_of script) points place i number ≡ reply.Bytes bytes
