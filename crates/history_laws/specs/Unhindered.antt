-- What hinders a call, by the steps of a run: want of memory, a reap, too many servers without their chunk or away, too many changes of its object; a rebuild also that its stripe isn't there or not current, or its target away.
use Rattle.std.specs.Prelude.{◌≡◌, ◌≢◌, ℕ, ◌<◌, ◌≤◌, ◌⊎◌, List, length, Some, All, AllPairs, Contains}
use Rattle.store_map.specs.Limits.{tries_of}
use Rattle.store_map.specs.declared.call.Rebuild.{Rebuild}
use Rattle.store_map.specs.declared.placement.Found.{Found}
use Rattle.store_map.specs.declared.placement.Found.TheVariants as found
use Rattle.store_map.specs.declared.placement.Placement.TheVariants as placement
use Rattle.store_map.specs.declared.script.Script.{Script}
use Rattle.store_map.specs.declared.call_name.CallName.{CallName}
use Rattle.store_core.specs.Act.{Act, ServerStep}
use Rattle.store_core.specs.Told.{Told}
use Rattle.run_laws.specs.CauseLaws.{changes_of}
use Rattle.history_laws.specs.LineCauses.{rebuild_named}
use Rattle.history_laws.specs.LostChunks.{AsksFor}
use Rattle.history_laws.specs.Moments.{Happened, IsOf}
use Rattle.history_laws.specs.Trace.{Made}
use Rattle.history_laws.specs.Over.{answers_to}

-- the call asked a server for a chunk of a version, and was told that it had none to give
abbrev pub LacksChunk : List Made → CallName → ℕ → ℕ → Type 0
LacksChunk trace call version server =
    Happened trace (λ before made. IsOf call made × ((step : ServerStep) × (made.act ≡ Act.AtServer server step) × AsksFor version step) × ((found : Found) × (made.answer ≡ Told.Missing found)))

-- the call had a chunk of a version for a server that was away
abbrev pub SkipsChunk : List Made → CallName → ℕ → ℕ → Type 0
SkipsChunk trace call version server =
    Happened trace (λ before made. IsOf call made × (made.act ≡ Act.AtServer server (ServerStep.Prepare version)) × ((downs : ℕ) × (made.answer ≡ Told.Prepared (placement.Skipped downs))))

-- this holds of no more than so many servers
abbrev pub AtMost : ℕ → (ℕ → Type 0) → Type 0
AtMost most Is = (servers : List ℕ) → AllPairs (λ one other. one ≢ other) servers → All Is servers → length servers ≤ most

-- a call met nothing that can hinder clients' calls and rebuilds alike
pub record IsUnhindered (script : Script) (trace : List Made) (call : CallName) : Type 0 where
  -- memory was wanting in none of its steps, nor in the coding before one
  pub memory : ¬ Contains (answers_to call trace) Told.Short
  -- it was not told that it was given up
  pub kept : (point : ℕ) → ¬ Contains (answers_to call trace) (Told.Reaped point)
  -- of each version that it gathered no more servers lacked their chunk than there are parity chunks
  pub gathered : (version : ℕ) → AtMost script.geometry.parity_count (LacksChunk trace call version)

-- nor anything that can hinder puts and writes alone
pub record CouldWrite (script : Script) (trace : List Made) (call : CallName) : Type 0 where
  -- of each version that the call prepared no more servers were away than there are parity chunks
  pub prepared : (version : ℕ) → AtMost script.geometry.parity_count (SkipsChunk trace call version)
  -- it was told of a change of its object fewer times than a write has tries
  pub tries : length (changes_of (answers_to call trace)) < tries_of script

-- the target of a rebuild told it that it was away, when it was asked for its chunk or when the chunk came
abbrev pub TargetWasAway : Script → List Made → CallName → Type 0
TargetWasAway script trace call =
    (rebuild : Rebuild) × (rebuild_named script call ≡ Some rebuild) ×
    Happened trace
    (λ before made. IsOf call made × ((step : ServerStep) × (made.act ≡ Act.AtServer rebuild.server step)) × ((downs : ℕ) × ((made.answer ≡ Told.Away downs) ⊎ (made.answer ≡ Told.Missing (found.Away downs)))))

-- nor anything that can hinder rebuilds alone: it found its stripe, which was not superseded, and its target, which was not away
pub record HasItsPlace (script : Script) (trace : List Made) (call : CallName) : Type 0 where
  pub found : ¬ Contains (answers_to call trace) Told.NoSuch
  pub current : (newer : ℕ) → ¬ Contains (answers_to call trace) (Told.Superseded newer)
  pub target : ¬ TargetWasAway script trace call
