-- That what calls were owed by their looks is all that a transcript asks of served reads.
use Rattle.std.specs.Prelude.{◌≡◌, ℕ, List, Some}
use Rattle.clay_grid.specs.Limits.{IsGeometry}
use Rattle.store_map.specs.Limits.{size_of}
use Rattle.store_map.specs.Naming.{IsValid}
use Rattle.store_map.specs.declared.actor.Token.{Token}
use Rattle.store_map.specs.declared.script.Script.{Script}
use Rattle.store_map.specs.declared.transcript.Transcript.{Transcript}
use Rattle.store_core.specs.Act.{Outcome}
use Rattle.store_core.specs.ActPlace.{ActPlace}
use Rattle.store_core.specs.Core.{Core, first_core}
use Rattle.store_core.specs.Directory.{Directory}
use Rattle.store_core.specs.History.{call_of}
use Rattle.store_core.specs.Shown.{shown}
use Rattle.thread_laws.specs.Histories.{Histories, StandTwice, GoOn}
use Rattle.thread_laws.specs.Merging.{EndAs}
use Rattle.chunk_server.specs.State.{ServerState}
use Rattle.call_steps.specs.declared.caller_calls.CallerCalls.{CallerCalls}
use Rattle.world_laws.specs.Served.{outcome_at, bytes_at, ServedAre}
use Rattle.world_laws.specs.HeldCore.{Holds}
use Rattle.world_laws.specs.World.{WorldOf}
use Rattle.world_laws.specs.Known.{core_of}
use Rattle.world_laws.specs.StandsFor.{StandsFor}
use Rattle.thread_laws.specs.Owed.{WasOwed}
use Rattle.thread_laws.specs.Ended.{RanApart}
use Rattle.thread_laws.specs.Run.{IsRun}

-- each call that was served has the bytes that it was owed by its look
abbrev pub HaveOwed : Script → Histories → List CallerCalls → Type 0
HaveOwed script h clients =
    (i number place : ℕ) (bytes : List ℕ) → outcome_at clients i number ≡ Some (Outcome.Served place) → bytes_at clients i number ≡ Some bytes →
    WasOwed script (h.at ActPlace.Directory) i number place bytes

-- of steps that were made apart, a world that stands for the core in which they end, and the lists that hold what the world tells of it: all but what the calls in work were told
abbrev pub OwedAreServed : Type 0
OwedAreServed =
    (script : Script) (lines : List Token) (h : Histories) → IsGeometry script.geometry → IsValid script → StandTwice h → GoOn script lines (first_core script) h.at h.of →
    (end : Core) (w : WorldOf) → EndAs script (first_core script) h.at h.of end → StandsFor script w end →
    (d : Directory) (servers : List ServerState) (clients : List CallerCalls) (repairers : List CallerCalls) → Holds (core_of script w) d servers clients repairers →
    HaveOwed script h clients → ServedAre (size_of script) (call_of script) d.points clients

-- a transcript that is made of such lists is what the core shows that they hold
abbrev pub IsMadeOf : Directory → List ServerState → List CallerCalls → List CallerCalls → Transcript → Type 0
IsMadeOf d servers clients repairers t =
    (script : Script) (core : Core) → Holds core d servers clients repairers → ServedAre (size_of script) (call_of script) d.points clients → t ≡ shown script core

-- so what is made of the lists that steps made apart end with is a run's transcript
abbrev pub TranscriptsAreRuns : Type 0
TranscriptsAreRuns =
    (script : Script) (h : Histories) (end : Core) (w : WorldOf) → IsGeometry script.geometry → IsValid script → RanApart script h end → StandsFor script w end →
    (d : Directory) (servers : List ServerState) (clients : List CallerCalls) (repairers : List CallerCalls) → Holds (core_of script w) d servers clients repairers → HaveOwed script h clients →
    (t : Transcript) → IsMadeOf d servers clients repairers t → IsRun script t
