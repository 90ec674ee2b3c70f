-- What a transcript shows of calls that are over, and that calls which nothing hindered are answered.
use Rattle.std.specs.Prelude.{ℕ, ◌⊎◌, List, All, Contains, ⊤}
use Rattle.store_map.specs.declared.reply.Reply.{Reply}
use Rattle.store_map.specs.declared.script.Script.{Script}
use Rattle.store_map.specs.declared.call_name.ClientCall.{ClientCall}
use Rattle.store_map.specs.declared.call_name.RepairCall.{RepairCall}
use Rattle.store_map.specs.declared.call_name.CallName.TheVariants as name
use Rattle.store_map.specs.declared.cause.Cause.{Cause}
use Rattle.store_map.specs.declared.cause.RepairResult.{RepairResult}
use Rattle.store_map.specs.declared.cause.RepairResult.TheVariants as result
use Rattle.store_map.specs.declared.shown.Shown.TheVariants as shown
use Rattle.store_map.specs.declared.transcript.Transcript.{Transcript}
use Rattle.hist_rules.specs.Named.{answered_calls}
use Rattle.history_laws.specs.Trace.{Made}
use Rattle.history_laws.specs.Over.{IsOver}
use Rattle.history_laws.specs.Unhindered.{IsUnhindered, CouldWrite, HasItsPlace}

-- the history has the call with a reply
abbrev pub IsAnswered : Transcript → ClientCall → Type 0
IsAnswered t call = (point : ℕ) × (reply : Reply) × Contains t.history (record { point = point; call = call; reply = shown.Reply reply })

-- the call was refused
abbrev pub IsRefused : Transcript → ClientCall → Type 0
IsRefused t call = (cause : Cause) × Contains t.refused (record { call = call; cause = cause })

-- a rebuild has a result of which this holds
abbrev pub HasResult : (RepairResult → Type 0) → Transcript → RepairCall → Type 0
HasResult Is t call = (result : RepairResult) × Is result × Contains t.repairs (record { call = call; result = result })

-- the rebuild ended with its chunk at its target
abbrev pub IsDone : RepairResult → Type 0
IsDone result.Rebuilt = ⊤
IsDone result.Here = ⊤
IsDone what = ⊥

-- each call that is over has a reply, a refusal or a result: a client's one of the first two, a rebuild the last
pub record TellsEnds (script : Script) (trace : List Made) (t : Transcript) : Type 0 where
  pub clients : (call : ClientCall) → IsOver script trace (name.Client call) → IsAnswered t call ⊎ IsRefused t call
  pub repairers : (call : RepairCall) → IsOver script trace (name.Repairer call) → HasResult (λ what. ⊤) t call
  -- and no other call has one
  pub only : All (IsOver script trace) (answered_calls t)

-- a call that is over and that nothing hindered is answered: a client's has a reply and no refusal, and a rebuild ended with its chunk at its target
pub record AnswersTheUnhindered (script : Script) (trace : List Made) (t : Transcript) : Type 0 where
  pub clients :
      (call : ClientCall) → IsOver script trace (name.Client call) → IsUnhindered script trace (name.Client call) → CouldWrite script trace (name.Client call) →
      IsAnswered t call × ¬ IsRefused t call
  pub repairers :
      (call : RepairCall) → IsOver script trace (name.Repairer call) → IsUnhindered script trace (name.Repairer call) → HasItsPlace script trace (name.Repairer call) →
      HasResult IsDone t call
