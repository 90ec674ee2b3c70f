-- Given up, and lost races: the other causes of a refusal, and what a rebuild's result names.
use Rattle.std.specs.Prelude.{◌≡◌, ℕ, ◌+◌, ◌<◌, ◌≤◌, List, length, slice_get, count_by, All, IsTrue, IfSome, Option, None, Some, option_and_then, ⊤}
use Rattle.store_map.specs.Limits.{tries_of}
use Rattle.store_map.specs.declared.call.Rebuild.{Rebuild}
use Rattle.store_map.specs.declared.script.Script.{Script}
use Rattle.store_map.specs.declared.call_name.ClientCall.{ClientCall}
use Rattle.store_map.specs.declared.cause.Cause.{Cause}
use Rattle.store_map.specs.declared.cause.Cause.TheVariants as cause
use Rattle.store_map.specs.declared.cause.RepairResult.{RepairResult}
use Rattle.store_map.specs.declared.cause.RepairResult.TheVariants as result
use Rattle.store_map.specs.declared.transcript.Transcript.{Transcript}
use Rattle.hist_rules.specs.First.{AllAlong}
use Rattle.hist_rules.specs.Calls.{call_of, rebuild_of, same_actor}
use Rattle.hist_rules.specs.Counts.{reaps}
use Rattle.hist_rules.specs.Named.{is_change_point}
use Rattle.hist_rules.specs.LostRaces.{written_name}
use Rattle.hist_rules.specs.GivenUp.{reaped_calls}
use Rattle.hist_rules.specs.FoundMissing.{TellsDowns}

-- no caller is cut off but by the operator: each actor's calls are given up no more often than the schedule has lines that do so
abbrev pub GivenUp : Script → Transcript → Type 0
GivenUp script t = AllAlong (λ before call. count_by (same_actor call) before + 1 ≤ reaps script call) (reaped_calls t)

-- a lost race, after the ones before it: the point that was looked at is older than the change that won, and no older than the one that won before; both
-- change the object
pub record IsRace (script : Script) (t : Transcript) (name : List ℕ) (before : List (ℕ × ℕ)) (pair : ℕ × ℕ) : Type 0 where
  pub later : pair.0 < pair.1
  pub order : IfSome (slice_get before 0) (λ other. other.1 ≤ pair.0)
  pub looked_at : IsTrue (is_change_point script t name pair.0)
  pub newer : IsTrue (is_change_point script t name pair.1)

-- a write that lost as many races as it had tries
pub record LostEach (script : Script) (t : Transcript) (pairs : List (ℕ × ℕ)) (name : List ℕ) : Type 0 where
  pub count : length pairs ≡ tries_of script
  pub races : AllAlong (IsRace script t name) pairs

-- nothing but a write does
abbrev pub IsLoser : Script → Transcript → List (ℕ × ℕ) → Option (List ℕ) → Type 0
IsLoser script t pairs None = ⊥
IsLoser script t pairs (Some name) = LostEach script t pairs name

-- of a client's refusal
abbrev pub LostRace : Script → Transcript → ClientCall → Cause → Type 0
LostRace script t call (cause.Contended pairs) = IsLoser script t pairs (option_and_then written_name (call_of script call))
LostRace script t call _ = ⊤

-- no write is refused as contended while it has tries left, or for changes that the history doesn't have
abbrev pub LostRaces : Script → Transcript → Type 0
LostRaces script t = All (λ line. LostRace script t line.call line.cause) t.refused

-- a rebuild's result names a change of its object, its stripe, and downs of its server
abbrev pub NamesOwn : Script → Transcript → RepairResult → Rebuild → Type 0
NamesOwn script t (result.Superseded newer) rebuild = IsTrue (is_change_point script t rebuild.name newer)
NamesOwn script t (result.Unavailable stripe missing) rebuild = rebuild.stripe ≡ stripe
NamesOwn script t (result.Away told) rebuild = TellsDowns script rebuild.server told
NamesOwn script t _ rebuild = ⊤

-- no rebuild ends for what doesn't concern its chunk
abbrev pub NameOwnResults : Script → Transcript → Type 0
NameOwnResults script t = All (λ line. IfSome (rebuild_of script line.call) (NamesOwn script t line.result)) t.repairs
