-- A call is given up only by the operator, who names its actor each time.
use Rattle.std.specs.Prelude.{◌+◌, nat_le, Bool, true, false, List, ◌++◌, map, filter, count_by, Option}
use Rattle.store_map.specs.declared.script.Script.{Script}
use Rattle.store_map.specs.declared.call_name.CallName.{CallName}
use Rattle.store_map.specs.declared.call_name.CallName.TheVariants.{Client, Repairer}
use Rattle.store_map.specs.declared.cause.Cause.{Cause}
use Rattle.store_map.specs.declared.cause.Cause.TheVariants as cause
use Rattle.store_map.specs.declared.cause.RepairResult.{RepairResult}
use Rattle.store_map.specs.declared.cause.RepairResult.TheVariants as result
use Rattle.store_map.specs.declared.transcript.Transcript.{Transcript}
use Rattle.hist_rules.specs.declared.verdict.Verdict.{Verdict}
use Rattle.hist_rules.specs.declared.verdict.Verdict.TheVariants.{BadCause}
use Rattle.hist_rules.specs.First.{unless, first_fault_along}
use Rattle.hist_rules.specs.Calls.{same_actor}
use Rattle.hist_rules.specs.Counts.{reaps}

-- of a client's call
abbrev pub is_reaped_cause : Cause → Bool
is_reaped_cause (cause.Reaped at) = true
is_reaped_cause _ = false

-- of a rebuild
abbrev pub is_reaped_result : RepairResult → Bool
is_reaped_result (result.Reaped at) = true
is_reaped_result _ = false

-- the calls that were given up, in the order of lines
abbrev pub reaped_calls : Transcript → List CallName
reaped_calls t =
    map (λ line. Client line.call) (filter (λ line. is_reaped_cause line.cause) t.refused)
    ++ map (λ line. Repairer line.call) (filter (λ line. is_reaped_result line.result) t.repairs)

-- the actor's calls given up so far, this one among them, are no more than its lines in the schedule; the fault tells those lines, and these calls
abbrev pub is_reaped : Script → List CallName → CallName → Option Verdict
is_reaped script before call =
    unless (nat_le (count_by (same_actor call) before + 1) (reaps script call)) (BadCause call (reaps script call) (count_by (same_actor call) before + 1))

-- the first call given up once too often
abbrev pub given_up : Script → Transcript → Option Verdict
given_up script t = first_fault_along (is_reaped script) (reaped_calls t)
