-- What the values of a threaded run show at its end.
use Rattle.std.specs.Prelude.{List}
use Rattle.clay_grid.specs.Limits.{IsGeometry}
use Rattle.clay_grid.specs.Shape.{chunk_count}
use Rattle.store_map.specs.Naming.{IsValid}
use Rattle.store_map.specs.declared.script.Script.{Script}
use Rattle.store_map.specs.declared.transcript.Transcript.{Transcript}
use Rattle.store_core.specs.Server.{Server}
use Rattle.store_core.specs.Sweep.{Sweeper}
use Rattle.chunk_server.specs.State.{ServerState}
use Rattle.stripe_stamps.specs.Sealed.{Sealed}
use Rattle.call_steps.specs.declared.caller_calls.CallerCalls.{CallerCalls}
use Rattle.world_laws.specs.HeldCore.{Holds}
use Rattle.world_laws.specs.Known.{core_of}
use Rattle.thread_laws.specs.Run.{IsRun}
use Rattle.thread_laws.specs.ServedLaws.{HaveOwed, IsMadeOf}
use Rattle.thread_laws.specs.Logs.{Logs, run_lists}
use Rattle.thread_laws.specs.PlaceEnded.{PlacesStand, CallerOf, AllHaveEnded}
use Rattle.thread_laws.specs.EndLaws.{world_of}

-- a transcript that is made of the calls and servers of a run in which all actors have ended, and whose served calls have the bytes that they were owed
abbrev pub ActorsShowRuns : Type 0
ActorsShowRuns =
    (script : Script) (d : Sealed) (servers : List Server) (logs swept operated : Logs) (clients repairers : List CallerOf) (sweeper : Sweeper) →
    IsGeometry script.geometry → IsValid script → PlacesStand script d servers logs → AllHaveEnded script logs swept operated clients repairers sweeper →
    (states : List ServerState) (calls : List CallerCalls) (rebuilds : List CallerCalls) →
    Holds (core_of script (world_of script d servers clients repairers sweeper)) d.core states calls rebuilds → HaveOwed script (run_lists (chunk_count script.geometry) logs) calls →
    (t : Transcript) → IsMadeOf d.core states calls rebuilds t → IsRun script t
