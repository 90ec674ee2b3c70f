-- The transcript that a core shows.
use Rattle.std.specs.Prelude.{ℕ, nat_lt, List, [], ◌∷◌, ◌++◌, length, map, flat_map, Option, None, Some, if◌then◌else◌}
use Rattle.std.specs.List.{list_any, enumerate_from}
use Rattle.store_map.specs.declared.script.Script.{Script}
use Rattle.store_map.specs.declared.call_name.ClientCall.{ClientCall}
use Rattle.store_map.specs.declared.call_name.RepairCall.{RepairCall}
use Rattle.store_map.specs.declared.call_name.CallName.{CallName}
use Rattle.store_map.specs.declared.call_name.CallName.TheVariants as name
use Rattle.store_map.specs.declared.cause.Cause.{Cause}
use Rattle.store_map.specs.declared.cause.RepairResult.{RepairResult}
use Rattle.store_map.specs.declared.line.XLine.{XLine}
use Rattle.store_map.specs.declared.line.RLine.{RLine}
use Rattle.store_map.specs.declared.line.OLine.{OLine}
use Rattle.store_map.specs.declared.line.GLine.{GLine}
use Rattle.store_map.specs.declared.transcript.Transcript.{Transcript}
use Rattle.store_core.specs.Core.{Core}
use Rattle.store_core.specs.Work.{Ended, Calling}
use Rattle.store_core.specs.Step.{Shortage}
use Rattle.store_core.specs.Schedule.{run_core}
use Rattle.store_core.specs.History.{history_of}
use Rattle.store_core.specs.Outcomes.{cause_of, result_of}

-- the lines of some kind of an actor's calls that have ended, by number
abbrev pub lines_of_ended : {Line : Type 0} → (ℕ → Ended → List Line) → Calling → List Line
lines_of_ended line calling = flat_map (λ entry. line entry.0 entry.1) (enumerate_from 0 calling.ended)

-- the lines of all actors, by the actor's number
abbrev pub lines_of_actors : {Line : Type 0} → (ℕ → Calling → List Line) → List Calling → List Line
lines_of_actors lines callings = flat_map (λ entry. lines entry.0 entry.1) (enumerate_from 0 callings)

-- the line of a call that was refused
abbrev pub refused_line : ClientCall → Option Cause → List XLine
refused_line call None = []
refused_line call (Some cause) = record { call = call; cause = cause } ∷ []

-- the line of a rebuild
abbrev pub repair_line : RepairCall → Option RepairResult → List RLine
repair_line call None = []
repair_line call (Some result) = record { call = call; result = result } ∷ []

-- the call that an actor has begun and that has no outcome
abbrev pub unanswered_line : (ℕ → CallName) → Calling → List OLine
unanswered_line name calling = if nat_lt 0 calling.steps then record { call = name (length calling.ended) } ∷ [] else []

-- what a call took, if it took anything
abbrev pub take_line : CallName → List ℕ → List GLine
take_line call takes = if list_any (nat_lt 0) takes then record { call = call; takes = takes } ∷ [] else []

-- what an actor's calls took, the one that it has begun among them
abbrev pub take_lines : (ℕ → CallName) → Calling → List GLine
take_lines name calling =
    lines_of_ended (λ number ended. take_line (name number) ended.takes) calling ++ take_line (name (length calling.ended)) calling.takes

-- a call by its actor and its number
abbrev pub client_name : ℕ → ℕ → CallName
client_name i number = name.Client (record { client = i; number = number })

abbrev pub repairer_name : ℕ → ℕ → CallName
repairer_name i number = name.Repairer (record { repairer = i; number = number })

-- the lines of a core, kind by kind
abbrev pub shown : Script → Core → Transcript
shown script core =
    record {
      history = history_of script core;
      refused = lines_of_actors (λ i. lines_of_ended (λ number ended. refused_line (record { client = i; number = number }) (cause_of ended.outcome))) core.clients;
      repairs = lines_of_actors (λ i. lines_of_ended (λ number ended. repair_line (record { repairer = i; number = number }) (result_of ended.outcome))) core.repairers;
      unanswered = lines_of_actors (λ i. unanswered_line (client_name i)) core.clients ++ lines_of_actors (λ i. unanswered_line (repairer_name i)) core.repairers;
      objects = map (λ object. record { name = object.name; length = object.length }) core.directory.objects;
      takes = lines_of_actors (λ i. take_lines (client_name i)) core.clients ++ lines_of_actors (λ i. take_lines (repairer_name i)) core.repairers;
      servers = map (λ entry. record { server = entry.0; taken = entry.1.taken; held = length entry.1.held; epoch = entry.1.epoch }) (enumerate_from 0 core.servers);
    }

-- the transcript of a script's run, with the wants of memory of its steps
abbrev pub shown_of : Script → List Shortage → Transcript
shown_of script shortages = shown script (run_core script shortages script.schedule)
