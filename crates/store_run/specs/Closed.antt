-- The places of a store, taken out of their locks by all turns.
use Rattle.std.specs.Prelude.{◌≡◌, ℕ, List, length, Some}
use Rattle.std.specs.List.{slice_get}
use Rattle.store_map.specs.Limits.{size_of}
use Rattle.thread_laws.specs.MadeSteps.{MadeStep}
use Rattle.chunk_server.specs.Core.{core_of}
use Rattle.chunk_server.specs.State.{ServerState}
use Rattle.stripe_stamps.specs.Sealed.{Sealed}
use Rattle.turn_lock.specs.TurnState.{TurnState}
use Rattle.turn_lock.specs.Joined.{IsWhole}
use Rattle.turn_lock.specs.Out.{HasOwnAt}
use Rattle.thread_laws.specs.AtDirectory.{StandsAtDirectory}
use Rattle.thread_laws.specs.AtServer.{StandsAtServer}
use Rattle.thread_laws.specs.Noted.{Noted}
use Rattle.thread_laws.specs.Logs.{counts_of}
use Rattle.run_seats.specs.declared.directory_box.DirectoryIdentity.{DirectoryIdentity}
use Rattle.run_seats.specs.declared.server_box.ServerIdentity.{ServerIdentity}
use Rattle.run_seats.specs.declared.store.Store.{Store}

-- the directory has the store's book, and stands for the whole history of these turns
pub record IsDirectoryOut (store : Store) (turns : List (TurnState DirectoryIdentity Noted)) (directory : Sealed) : Type 0 where
  pub log : List (ℕ × Noted)
  pub book : directory.book ≡ store.book.now
  pub stands : StandsAtDirectory (counts_of store.script.now) (size_of store.script.now) directory log
  pub whole : IsWhole turns log

-- the server of this number stands for a history with all entries of the rows there
pub record IsServerOut (store : Store) (rows : List (List (TurnState ServerIdentity MadeStep))) (number : ℕ) (server : ServerState) (log : List (ℕ × MadeStep)) : Type 0 where
  pub number_is : server.number ≡ number
  pub stands : StandsAtServer (counts_of store.script.now) number (core_of server) log
  pub own : HasOwnAt rows number log

-- all servers stand for such histories
pub record AreServersOut (store : Store) (rows : List (List (TurnState ServerIdentity MadeStep))) (servers : List ServerState) : Type 0 where
  pub count : length servers ≡ length store.servers.items
  pub logs : List (List (ℕ × MadeStep))
  pub logged : length logs ≡ length store.servers.items
  pub each : (j : ℕ) (server : ServerState) (log : List (ℕ × MadeStep)) → slice_get servers j ≡ Some server → slice_get logs j ≡ Some log → IsServerOut store rows j server log
