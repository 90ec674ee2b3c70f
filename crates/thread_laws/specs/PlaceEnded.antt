-- The end of a threaded run: its places with their whole histories, and its actors.
use Rattle.std.specs.Prelude.{◌≡◌, ℕ, ◌+◌, false, List, [], length, Some}
use Rattle.std.specs.List.{slice_get}
use Rattle.clay_grid.specs.Shape.{chunk_count}
use Rattle.store_map.specs.Limits.{size_of}
use Rattle.store_map.specs.declared.actor.Actor.{Actor}
use Rattle.store_map.specs.declared.actor.Actor.TheVariants as actor
use Rattle.store_map.specs.declared.script.Script.{Script}
use Rattle.store_core.specs.Server.{Server}
use Rattle.store_core.specs.Sweep.{Sweeper}
use Rattle.store_core.specs.Work.{Work, client_work, repairer_work, has_step}
use Rattle.stripe_stamps.specs.Sealed.{Sealed}
use Rattle.thread_laws.specs.AtDirectory.{StandsAtDirectory}
use Rattle.thread_laws.specs.AtServer.{StandsAtServer}
use Rattle.world_laws.specs.World.{ActorOf}
use Rattle.world_laws.specs.Known.{calling_of}
use Rattle.thread_laws.specs.Logs.{Logs, log_of, own_at, HasSeenOwn, counts_of}
use Rattle.thread_laws.specs.Callers.{IsCalling, IsSweeping, IsOperating}

-- directory and servers stand for these histories
pub record PlacesStand (script : Script) (d : Sealed) (servers : List Server) (logs : Logs) : Type 0 where
  pub book : d.book.geometry ≡ script.geometry
  pub directory : StandsAtDirectory (counts_of script) (size_of script) d logs.directory
  pub width : length servers ≡ chunk_count script.geometry
  pub logged : length logs.servers ≡ chunk_count script.geometry
  pub at_server : (j : ℕ) (s : Server) → slice_get servers j ≡ Some s → StandsAtServer (counts_of script) j s (log_of logs j)

-- a client or a repairer, and what its turns have seen
pub record CallerOf : Type 0 where
  pub seen : Logs
  pub actor : ActorOf

-- an actor that has seen all entries of its number, and has no step left
pub record HasEnded (script : Script) (logs : Logs) (number : ℕ) (who : Actor) (work : Work) (caller : CallerOf) : Type 0 where
  pub saw : HasSeenOwn number caller.seen logs
  pub acting : IsCalling script who work (own_at number caller.seen) caller.actor
  pub over : has_step work (calling_of script caller.actor) ≡ false

-- all clients and repairers have ended, the operator has made all its lines
pub record AllHaveEnded (script : Script) (logs swept operated : Logs) (clients repairers : List CallerOf) (sweeper : Sweeper) : Type 0 where
  pub client_count : length clients ≡ length script.clients
  pub clients_ended :
      (i : ℕ) (work : Work) (caller : CallerOf) → slice_get (client_work script) i ≡ Some work → slice_get clients i ≡ Some caller →
      HasEnded script logs i (actor.Client i) work caller
  pub repairer_count : length repairers ≡ length script.repairers
  pub repairers_ended :
      (i : ℕ) (work : Work) (caller : CallerOf) → slice_get (repairer_work script) i ≡ Some work → slice_get repairers i ≡ Some caller →
      HasEnded script logs (length script.clients + i) (actor.Repairer i) work caller
  pub saw_swept : HasSeenOwn (length script.clients + length script.repairers) swept logs
  pub sweeping : IsSweeping script (own_at (length script.clients + length script.repairers) swept) sweeper
  pub saw_operated : HasSeenOwn (length script.clients + length script.repairers + 1) operated logs
  pub operating : IsOperating script (own_at (length script.clients + length script.repairers + 1) operated) []
