-- What a call has in a transcript, by the first line of its kind.
use Rattle.std.proofs.Common.{◌≡◌, List, [], ◌∷◌, Some}
use Rattle.std.specs.List.{slice_get}
use Rattle.store_map.specs.declared.call_name.ClientCall.{ClientCall}
use Rattle.store_map.specs.declared.call_name.RepairCall.{RepairCall}
use Rattle.store_map.specs.declared.call_name.CallName.TheVariants.{Client}
use Rattle.store_map.specs.declared.cause.Cause.{Cause}
use Rattle.store_map.specs.declared.cause.Cause.TheVariants as cause
use Rattle.store_map.specs.declared.cause.RepairResult.{RepairResult}
use Rattle.store_map.specs.declared.cause.RepairResult.TheVariants as result
use Rattle.store_map.specs.declared.line.XLine.{XLine}
use Rattle.store_map.specs.declared.line.RLine.{RLine}
use Rattle.store_map.specs.declared.transcript.Transcript.{Transcript}
use Rattle.run_laws.proofs.SoundLists.{contains_at}
use Rattle.history_laws.specs.Answered.{IsRefused, IsDone}
use Rattle.history_laws.specs.Hindered.{IsLeft, IsUnmade}

abbrev pub first_cause : List XLine → Cause
first_cause [] = cause.NoMemory
first_cause (line ∷ lines) = line.cause

pub refused_first : (t : Transcript) (call : ClientCall) → slice_get t.refused 0 ≡ Some (record { call = call; cause = first_cause t.refused }) → IsRefused t call
refused_first t call first = (first_cause t.refused, contains_at t.refused 0 (record { call = call; cause = first_cause t.refused }) first)

pub left_first : (t : Transcript) (call : ClientCall) → slice_get t.unanswered 0 ≡ Some (record { call = Client call }) → IsLeft t call
left_first t call first = contains_at t.unanswered 0 (record { call = Client call }) first

abbrev pub first_result : List RLine → RepairResult
first_result [] = result.NoMemory
first_result (line ∷ lines) = line.result

pub result_first : (t : Transcript) (call : RepairCall) → slice_get t.repairs 0 ≡ Some (record { call = call; result = first_result t.repairs }) → (IsDone (first_result t.repairs) → ⊥) → IsUnmade t call
result_first t call first undone = (first_result t.repairs, undone, contains_at t.repairs 0 (record { call = call; result = first_result t.repairs }) first)
