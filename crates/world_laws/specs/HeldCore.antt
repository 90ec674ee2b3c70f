-- The core that a world's parts stand for.
use Rattle.std.specs.Prelude.{◌≡◌, ℕ, List, map}
use Rattle.store_core.specs.Core.{Core}
use Rattle.store_core.specs.Directory.{Directory}
use Rattle.chunk_server.specs.State.{ServerState}
use Rattle.chunk_server.specs.Core.{core_of}
use Rattle.call_steps.specs.declared.caller_calls.CallerCalls.{CallerCalls}
use Rattle.call_steps.specs.CallerCalls.{calling_at}

-- directory, servers and calls are the core's, but for what the calls in work were told
pub record Holds (core : Core) (d : Directory) (servers : List ServerState) (clients : List CallerCalls) (repairers : List CallerCalls) : Type 0 where
  pub width : ℕ
  pub directory : core.directory ≡ d
  pub servers_are : core.servers ≡ map core_of servers
  pub clients_are : core.clients ≡ map (calling_at width) clients
  pub repairers_are : core.repairers ≡ map (calling_at width) repairers
