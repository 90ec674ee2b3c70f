-- What a transcript shows that calls took of servers, by what the run told them.
use Rattle.std.specs.Prelude.{◌≡◌, ℕ, List, [], ◌∷◌, filter, Some, Contains}
use Rattle.clay_grid.specs.Limits.{IsGeometry}
use Rattle.store_map.specs.Limits.{tries_of}
use Rattle.store_map.specs.Naming.{IsValid}
use Rattle.store_map.specs.declared.actor.Token.{Token}
use Rattle.store_map.specs.declared.call.Call.{Call}
use Rattle.store_map.specs.declared.call.Rebuild.{Rebuild}
use Rattle.store_map.specs.declared.reply.Reply.TheVariants as reply
use Rattle.store_map.specs.declared.script.Script.{Script}
use Rattle.store_map.specs.declared.call_name.ClientCall.{ClientCall}
use Rattle.store_map.specs.declared.call_name.RepairCall.{RepairCall}
use Rattle.store_map.specs.declared.call_name.CallName.{CallName}
use Rattle.store_map.specs.declared.call_name.CallName.TheVariants as name
use Rattle.store_map.specs.declared.cause.RepairResult.TheVariants as result
use Rattle.store_map.specs.declared.line.GLine.{GLine}
use Rattle.store_map.specs.declared.shown.Shown.TheVariants as shown
use Rattle.store_map.specs.declared.transcript.Transcript.{Transcript}
use Rattle.hist_rules.specs.Calls.{same_call, call_of, rebuild_of}
use Rattle.store_core.specs.NextAct.{Job}
use Rattle.store_core.specs.Note.{note_of}
use Rattle.store_core.specs.Schedule.{run_core}
use Rattle.store_core.specs.Shown.{take_line, shown as shown_by}
use Rattle.store_core.specs.Step.{Shortage}
use Rattle.history_laws.specs.LineCauses.{job_of_call}
use Rattle.history_laws.specs.Steps.{run_trace}
use Rattle.history_laws.specs.Trace.{Made}
use Rattle.history_laws.specs.LeastTakes.{TookLeast, TookRange}
use Rattle.history_laws.specs.TakesOfCalls.{taken_by, missing_count}
use Rattle.history_laws.specs.Over.{answers_to}

-- the lines that tell what a call took
abbrev pub lines_of_takes : Transcript → CallName → List GLine
lines_of_takes t call = filter (λ (line : GLine). same_call call line.call) t.takes

-- what the first of some lines tells; without one nothing was taken of any server
abbrev pub first_takes : List GLine → List ℕ
first_takes [] = []
first_takes (line ∷ lines) = line.takes

-- what a transcript shows that a call took of each server
abbrev pub takes_shown : Transcript → CallName → List ℕ
takes_shown t call = first_takes (lines_of_takes t call)

-- what is shown of what calls took
pub record TakesLeast (script : Script) (trace : List Made) (t : Transcript) : Type 0 where
  -- a call of the script has one line with the sum of what its answers gave it, or none where they gave it nothing
  pub given :
      (call : CallName) (job : Job) → job_of_call script call ≡ Some job →
      lines_of_takes t call ≡ take_line call (taken_by script.geometry (tries_of script) job (answers_to call trace))
  -- a rebuild that is rebuilt and found a chunk missing once took nothing of its target, and of each other server one part in as many as the grid has rows
  pub rebuilds :
      (call : RepairCall) (rebuild : Rebuild) → rebuild_of script call ≡ Some rebuild → Contains t.repairs (record { call = call; result = result.Rebuilt }) →
      missing_count (answers_to (name.Repairer call) trace) ≡ 1 → TookLeast script.geometry rebuild.server (takes_shown t (name.Repairer call))
  -- a get or a read that has its bytes and found no chunk missing took just the subchunks that have them
  pub reads :
      (call : ClientCall) (asked : Call) → call_of script call ≡ Some asked → (point : ℕ) (bytes : List ℕ) →
      Contains t.history (record { point = point; call = call; reply = shown.Reply (reply.Bytes bytes) }) →
      missing_count (answers_to (name.Client call) trace) ≡ 0 → TookRange script.geometry (note_of asked) (answers_to (name.Client call) trace) (takes_shown t (name.Client call))

-- so it is of every run of a valid script, whatever was wanting of memory
abbrev pub RunsTakeLeast : Type 0
RunsTakeLeast =
    (script : Script) (shortages : List Shortage) → IsGeometry script.geometry → IsValid script → (tokens : List Token) →
    TakesLeast script (run_trace script shortages tokens) (shown_by script (run_core script shortages tokens))
