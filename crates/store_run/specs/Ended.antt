-- The places of a run whose actors have no step left, with the sweeper and the calls.
use Rattle.std.specs.Prelude.{◌≡◌, ◌||◌, ℕ, Bool, List, map, Some, is_some}
use Rattle.std.specs.List.{slice_get}
use Rattle.clay_grid.specs.Limits.{IsGeometry}
use Rattle.clay_grid.specs.Shape.{chunk_count}
use Rattle.store_map.specs.Naming.{IsValid}
use Rattle.store_map.specs.declared.script.Script.{Script}
use Rattle.store_core.specs.Lookups.{first_garbage}
use Rattle.store_core.specs.Sweep.{is_busy}
use Rattle.chunk_server.specs.Core.{core_of}
use Rattle.chunk_server.specs.State.{ServerState}
use Rattle.world_laws.specs.Known.{calling_of}
use Rattle.call_steps.specs.CallerCalls.{calling_at}
use Rattle.call_steps.specs.declared.caller_calls.CallerCalls.{CallerCalls}
use Rattle.thread_laws.specs.PlaceEnded.{AllHaveEnded, CallerOf, PlacesStand}
use Rattle.thread_laws.specs.Logs.{Logs}
use Rattle.thread_laws.specs.SeenOwed.{OwedBySeen}
use Rattle.store_run.specs.declared.ended.Ended.{Ended}

-- these calls are those of the callers
abbrev pub AreCallsOf : Script → List CallerOf → List CallerCalls → Type 0
AreCallsOf script callers calls = map (λ caller. calling_of script caller.actor) callers ≡ map (calling_at (chunk_count script.geometry)) calls

-- the directory is of the script's book, directory and servers stand for whole histories, in which all clients and repairers have ended, and the operator has made all its lines; each call that was served has the bytes that it was owed
pub record IsEnded (script : Script) (ended : Ended) : Type 0 where
  pub geometry : IsGeometry script.geometry
  pub valid : IsValid script
  pub written : ended.directory.book.script ≡ Some script
  pub logs : Logs
  pub swept : Logs
  pub operated : Logs
  pub clients : List CallerOf
  pub repairers : List CallerOf
  pub places : PlacesStand script ended.directory (map core_of ended.servers.items) logs
  pub numbers : (j : ℕ) (server : ServerState) → slice_get ended.servers.items j ≡ Some server → server.number ≡ j
  pub all : AllHaveEnded script logs swept operated clients repairers ended.sweeper.at
  pub servers : ended.sweeper.servers ≡ chunk_count script.geometry
  pub calls : AreCallsOf script clients ended.clients.items
  pub rebuilds : AreCallsOf script repairers ended.repairers.items
  pub owed : (i : ℕ) (calls : CallerCalls) → slice_get ended.clients.items i ≡ Some calls → OwedBySeen script logs i calls

-- the sweeper is busy, or there is garbage
abbrev pub has_sweep : Ended → Bool
has_sweep ended = is_busy ended.sweeper.at || is_some (first_garbage ended.directory.core)
