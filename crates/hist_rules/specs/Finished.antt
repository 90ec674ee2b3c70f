-- A transcript in which every call came to its end.
use Rattle.std.specs.Prelude.{ℕ, ◌-◌, ◌<◌, List, length, Option, None, Some, slice_get, IfSome, Contains}
use Rattle.store_map.specs.declared.script.Script.{Script}
use Rattle.store_map.specs.declared.call_name.CallName.TheVariants.{Client, Repairer}
use Rattle.store_map.specs.declared.transcript.Transcript.{Transcript}
use Rattle.hist_rules.specs.Named.{answered_calls}

-- how many of an actor's calls are never left before they end: all, or all but the last
abbrev pub kept_calls : {Call : Type 0} → List Call → Option ℕ → ℕ
kept_calls calls None = length calls
kept_calls calls (Some steps) = length calls - 1

-- each of them was answered or refused, or has a rebuild's result
pub record Finished (script : Script) (t : Transcript) : Type 0 where
  pub clients : (actor number : ℕ) → IfSome (slice_get script.clients actor) (λ part. number < kept_calls part.calls part.leave → Contains (answered_calls t) (Client (record { client = actor; number = number })))
  pub repairers : (actor number : ℕ) → IfSome (slice_get script.repairers actor) (λ part. number < kept_calls part.calls part.leave → Contains (answered_calls t) (Repairer (record { repairer = actor; number = number })))
