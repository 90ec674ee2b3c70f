-- Found missing: a call that was unavailable names one server more than the code can spare, and each was away or had lost its chunk.
use Rattle.std.specs.Prelude.{◌≡◌, ◌≢◌, ℕ, ◌+◌, ◌<◌, ◌≤◌, List, length, All, IsTrue, ⊤}
use Rattle.clay_grid.specs.Shape.{chunk_count}
use Rattle.store_map.specs.declared.placement.Placement.{Placement}
use Rattle.store_map.specs.declared.placement.Placement.TheVariants.{At, Skipped}
use Rattle.store_map.specs.declared.placement.Found.{Found}
use Rattle.store_map.specs.declared.placement.Found.TheVariants.{Absent, Away}
use Rattle.store_map.specs.declared.script.Script.{Script}
use Rattle.store_map.specs.declared.call_name.CallName.{CallName}
use Rattle.store_map.specs.declared.cause.Triple.{Triple}
use Rattle.store_map.specs.declared.transcript.Transcript.{Transcript}
use Rattle.hist_rules.specs.First.{AllAlong}
use Rattle.hist_rules.specs.Counts.{wipes, downs}
use Rattle.hist_rules.specs.LostChunks.{may_lack_chunks, unavailable_calls}

-- the server was made away at least once, and no more often than in the whole schedule
abbrev pub TellsDowns : Script → ℕ → ℕ → Type 0
TellsDowns script server told = (1 ≤ told) × (told ≤ downs script server)

-- where the chunk was to be placed the server took it, or was away
abbrev pub WasPlaced : Script → ℕ → Placement → Type 0
WasPlaced script server (At epoch) = ⊤
WasPlaced script server (Skipped told) = TellsDowns script server told

-- where the chunk was asked for the server had been emptied so often, or was away
abbrev pub WasFound : Script → ℕ → Found → Type 0
WasFound script server (Absent found) = found ≤ wipes script server
WasFound script server (Away told) = TellsDowns script server told

-- a chunk that was placed and is absent was lost by emptying the server in between
abbrev pub WasLost : Placement → Found → Type 0
WasLost (At placed) (Absent found) = placed < found
WasLost (At placed) (Away told) = ⊤
WasLost (Skipped skipped) found = ⊤

-- a server that is named, after the ones before it
pub record IsMissing (script : Script) (before : List Triple) (triple : Triple) : Type 0 where
  pub server : triple.server < chunk_count script.geometry
  pub distinct : All (λ other. triple.server ≢ other.server) before
  pub placed : WasPlaced script triple.server triple.placed
  pub found : WasFound script triple.server triple.found
  pub lost : WasLost triple.placed triple.found

-- a call that was unavailable
pub record LacksChunks (script : Script) (call : CallName) (missing : List Triple) : Type 0 where
  pub kind : IsTrue (may_lack_chunks script call)
  pub count : length missing ≡ script.geometry.parity_count + 1
  pub servers : AllAlong (IsMissing script) missing

-- no data is called unavailable with too few servers named, or for losses that the operator never caused
abbrev pub FoundMissing : Script → Transcript → Type 0
FoundMissing script t = All (λ entry. LacksChunks script entry.0 entry.1) (unavailable_calls t)
