-- A call is unavailable only where one server more than the code can spare was away or had lost its chunk.
use Rattle.std.specs.Prelude.{ℕ, ◌+◌, Bool, true, false, nat_eq, List, [], ◌∷◌, ◌++◌, length, Option}
use Rattle.std.specs.List.{flat_map}
use Rattle.std.specs.Option.{option_map_or}
use Rattle.store_map.specs.declared.call.Call.{Call}
use Rattle.store_map.specs.declared.call.Call.TheVariants.{Put, Write, Get, ReadAt}
use Rattle.store_map.specs.declared.script.Script.{Script}
use Rattle.store_map.specs.declared.call_name.CallName.{CallName}
use Rattle.store_map.specs.declared.call_name.CallName.TheVariants.{Client, Repairer}
use Rattle.store_map.specs.declared.cause.Triple.{Triple}
use Rattle.store_map.specs.declared.cause.Cause.{Cause}
use Rattle.store_map.specs.declared.cause.Cause.TheVariants as cause
use Rattle.store_map.specs.declared.cause.RepairResult.{RepairResult}
use Rattle.store_map.specs.declared.cause.RepairResult.TheVariants as result
use Rattle.store_map.specs.declared.transcript.Transcript.{Transcript}
use Rattle.hist_rules.specs.declared.verdict.Verdict.{Verdict}
use Rattle.hist_rules.specs.declared.verdict.Verdict.TheVariants.{BadCause}
use Rattle.hist_rules.specs.First.{unless, first_of, first_fault, first_fault_along}
use Rattle.hist_rules.specs.Calls.{call_of}
use Rattle.hist_rules.specs.MissingChunk.{chunk_missing}

-- the calls that ask servers for chunks; a put, which only gives them some, can be refused in scripts of form 2 alone
abbrev pub asks_for_chunks : ℕ → Call → Bool
asks_for_chunks form (Get name) = true
asks_for_chunks form (ReadAt name offset count) = true
asks_for_chunks form (Write name offset content) = true
asks_for_chunks form (Put name content) = nat_eq form 2
asks_for_chunks form _ = false

-- a rebuild does so too
abbrev pub may_lack_chunks : Script → CallName → Bool
may_lack_chunks script (Client call) = option_map_or (asks_for_chunks script.form) (call_of script call) false
may_lack_chunks script (Repairer call) = true

-- the servers that a client's refusal names
abbrev pub missing_of_cause : CallName → Cause → List (CallName × List Triple)
missing_of_cause call (cause.Unavailable stripe missing) = (call, missing) ∷ []
missing_of_cause call _ = []

-- and those that a rebuild's result names
abbrev pub missing_of_result : CallName → RepairResult → List (CallName × List Triple)
missing_of_result call (result.Unavailable stripe missing) = (call, missing) ∷ []
missing_of_result call _ = []

-- the calls that were unavailable, with the servers that each names, in the order of lines
abbrev pub unavailable_calls : Transcript → List (CallName × List Triple)
unavailable_calls t =
    flat_map (λ line. missing_of_cause (Client line.call) line.cause) t.refused ++ flat_map (λ line. missing_of_result (Repairer line.call) line.result) t.repairs

-- the kind of the call, then how many servers are named, then each of them; the fault of their number tells the one wanted and the one found
abbrev pub chunks_lost : Script → CallName × List Triple → Option Verdict
chunks_lost script (call, missing) =
    first_of (unless (may_lack_chunks script call) (BadCause call 0 1)
    ∷ unless (nat_eq (length missing) (script.geometry.parity_count + 1)) (BadCause call (script.geometry.parity_count + 1) (length missing))
    ∷ first_fault_along (chunk_missing script call missing) missing
    ∷ [])

-- the first refusal that can't be
abbrev pub lost_chunks : Script → Transcript → Option Verdict
lost_chunks script t = first_fault (chunks_lost script) (unavailable_calls t)
