-- A write gives up only where each of its tries lost a race with a change of its object.
use Rattle.std.specs.Prelude.{ℕ, nat_eq, nat_lt, nat_le, ◌&&◌, List, [], ◌∷◌, length, Option, None, Some, option_and_then}
use Rattle.std.specs.List.{slice_get}
use Rattle.store_map.specs.Limits.{tries_of}
use Rattle.store_map.specs.declared.call.Call.{Call}
use Rattle.store_map.specs.declared.call.Call.TheVariants.{Write}
use Rattle.store_map.specs.declared.script.Script.{Script}
use Rattle.store_map.specs.declared.call_name.ClientCall.{ClientCall}
use Rattle.store_map.specs.declared.call_name.CallName.{CallName}
use Rattle.store_map.specs.declared.call_name.CallName.TheVariants.{Client}
use Rattle.store_map.specs.declared.cause.Cause.{Cause}
use Rattle.store_map.specs.declared.cause.Cause.TheVariants as cause
use Rattle.store_map.specs.declared.transcript.Transcript.{Transcript}
use Rattle.hist_rules.specs.declared.verdict.Verdict.{Verdict}
use Rattle.hist_rules.specs.declared.verdict.Verdict.TheVariants.{BadCause}
use Rattle.hist_rules.specs.First.{unless, first_of, first_fault, first_fault_along}
use Rattle.hist_rules.specs.Calls.{call_of}
use Rattle.hist_rules.specs.Named.{is_change_point}

-- the name of the object that a write writes
abbrev pub written_name : Call → Option (List ℕ)
written_name (Write name offset content) = Some name
written_name _ = None

-- a race begins no earlier than the one before was lost; the fault tells that point, and the one that was looked at
abbrev pub begins_later : CallName → Option (ℕ × ℕ) → ℕ → Option Verdict
begins_later call None looked_at = None
begins_later call (Some before) looked_at = unless (nat_le before.1 looked_at) (BadCause call before.1 looked_at)

-- one race, after those before it: the point that was looked at is older than the change that won it, and both are changes of the object; the fault tells
-- the two, or 1 and 0
abbrev pub race_lost : Script → Transcript → CallName → List ℕ → List (ℕ × ℕ) → ℕ × ℕ → Option Verdict
race_lost script t call name before pair =
    first_of (unless (nat_lt pair.0 pair.1) (BadCause call pair.0 pair.1)
    ∷ begins_later call (slice_get before 0) pair.0
    ∷ unless (is_change_point script t name pair.0 && is_change_point script t name pair.1) (BadCause call 1 0)
    ∷ [])

-- as many races as tries, then each of them; the fault of their number tells the one wanted and the one found
abbrev pub races_lost : Script → Transcript → CallName → List (ℕ × ℕ) → Option (List ℕ) → Option Verdict
races_lost script t call pairs None = Some (BadCause call 0 1)
races_lost script t call pairs (Some name) =
    first_of (unless (nat_eq (length pairs) (tries_of script)) (BadCause call (tries_of script) (length pairs))
    ∷ first_fault_along (race_lost script t call name) pairs
    ∷ [])

-- a refusal for lost races stands only for a write
abbrev pub cause_of_races : Script → Transcript → ClientCall → Cause → Option Verdict
cause_of_races script t call (cause.Contended pairs) = races_lost script t (Client call) pairs (option_and_then written_name (call_of script call))
cause_of_races script t call _ = None

-- the first such refusal that can't be
abbrev pub lost_races : Script → Transcript → Option Verdict
lost_races script t = first_fault (λ line. cause_of_races script t line.call line.cause) t.refused
