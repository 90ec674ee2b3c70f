-- What runs show is well formed: the text of it is read back as what was shown.
use Rattle.std.specs.Prelude.{◌^◌, ◌<◌, List, length}
use Rattle.std.specs.List.{filter}
use Rattle.clay_grid.specs.Shape.{chunk_count}
use Rattle.store_map.specs.Naming.{IsValid}
use Rattle.store_map.specs.declared.actor.Token.{Token}
use Rattle.store_map.specs.declared.script.Script.{Script}
use Rattle.line_grammar.specs.Values.{IsScript}
use Rattle.store_map.specs.declared.transcript.Transcript.{Transcript}
use Rattle.transcript_read.specs.WellFormed.{IsWellFormed}
use Rattle.store_core.specs.Schedule.{run_core}
use Rattle.store_core.specs.Shown.{shown, shown_of}
use Rattle.store_core.specs.Step.{Shortage}
use Rattle.history_laws.specs.Steps.{run_trace}
use Rattle.thread_laws.specs.Threaded.{is_line}
use Rattle.history_laws.specs.Faithful.{IsFaithful}
use Rattle.history_laws.specs.Played.{IsPlayed}
use Rattle.thread_laws.specs.Run.{IsRun}

-- the operator's lines among tokens are few, as those of a valid script's schedule are
abbrev pub HasFewLines : List Token → Type 0
HasFewLines tokens = length (filter is_line tokens) < 2 ^ 32

-- what a run by such tokens shows, whatever was wanting of memory, is well formed where it is faithful to the run
abbrev pub FaithfulRunsAreWellFormed : Type 0
FaithfulRunsAreWellFormed =
    (script : Script) (shortages : List Shortage) → IsScript script → IsValid script → (tokens : List Token) → HasFewLines tokens →
    IsFaithful script (run_trace script shortages tokens) (shown script (run_core script shortages tokens)) →
    IsWellFormed (chunk_count script.geometry) (shown script (run_core script shortages tokens))

-- so is what a schedule shows
abbrev pub PlayedAreWellFormed : Type 0
PlayedAreWellFormed = (script : Script) (t : Transcript) → IsScript script → IsValid script → IsPlayed script t → IsWellFormed (chunk_count script.geometry) t

-- so each run of a script shows such a transcript, whatever was wanting of memory
abbrev pub RunsAreWellFormed : Type 0
RunsAreWellFormed = (script : Script) (shortages : List Shortage) → IsScript script → IsValid script → IsWellFormed (chunk_count script.geometry) (shown_of script shortages)

-- and what a threaded run shows
abbrev pub ThreadedAreWellFormed : Type 0
ThreadedAreWellFormed = (script : Script) (t : Transcript) → IsScript script → IsValid script → IsRun script t → IsWellFormed (chunk_count script.geometry) t
