-- A store whose places stand behind locks, and an actor's turns at all of them.
use Rattle.std.specs.Prelude.{◌≡◌, ℕ, length, map, Some}
use Rattle.std.specs.List.{slice_get}
use Rattle.atomic_table.specs.Seated.{TableId}
use Rattle.clay_grid.specs.Limits.{IsGeometry}
use Rattle.clay_grid.specs.Shape.{chunk_count}
use Rattle.store_map.specs.Limits.{size_of}
use Rattle.store_map.specs.Naming.{IsValid}
use Rattle.store_map.specs.declared.script.Script.{Script}
use Rattle.thread_laws.specs.MadeSteps.{MadeStep}
use Rattle.version_seal.specs.Entry.{BookOf}
use Rattle.turn_lock.specs.TurnState.{TurnState}
use Rattle.turn_lock.specs.Dealt.{IsTurnAt}
use Rattle.thread_laws.specs.Logs.{Logs}
use Rattle.thread_laws.specs.Stepped.{last_own}
use Rattle.run_seats.specs.declared.directory_box.DirectoryIdentity.{DirectoryIdentity}
use Rattle.run_seats.specs.declared.server_box.ServerIdentity.{ServerIdentity}
use Rattle.run_seats.specs.declared.store.Store.{Store}
use Rattle.run_seats.specs.declared.seat_turns.Turns.{Turns}

-- what never changes about the directory of a script's store, and about a server of it
abbrev pub directory_for : Script → BookOf → DirectoryIdentity
directory_for script book = record { opening = book; max = size_of script; clients = length script.clients; repairers = length script.repairers }

abbrev pub server_for : Script → BookOf → ℕ → ServerIdentity
server_for script book j = record { number = j; opening = book; clients = length script.clients; repairers = length script.repairers }

abbrev pub directory_of : Store → DirectoryIdentity
directory_of store = directory_for store.script.now store.book.now

abbrev pub server_of : Store → ℕ → ServerIdentity
server_of store j = server_for store.script.now store.book.now j

-- a store of a valid script, whose book has that script, with as many servers as a stripe has chunks
pub record IsStore (store : Store) : Type 0 where
  pub written : store.book.now.script ≡ Some store.script.now
  pub code : store.book.now.geometry ≡ store.script.now.geometry
  pub geometry : IsGeometry store.script.now.geometry
  pub valid : IsValid store.script.now
  pub count : length store.servers.items ≡ chunk_count store.script.now.geometry

-- turns at the directory and at each server of the store
pub record HasTurns (store : Store) (turns : Turns) : Type 0 where
  pub directory : IsTurnAt store.directory (directory_of store) turns.number turns.directory
  pub count : length turns.servers.items ≡ chunk_count store.script.now.geometry
  pub servers :
      (j : ℕ) (lock : TableId) (turn : TurnState ServerIdentity MadeStep) → slice_get store.servers.items j ≡ Some lock → slice_get turns.servers.items j ≡ Some turn →
      IsTurnAt lock (server_of store j) turns.number turn

-- what they have seen
abbrev pub seen_by : Turns → Logs
seen_by turns =
    record {
      directory = turns.directory.seen;
      servers = map (λ (turn : TurnState ServerIdentity MadeStep). turn.seen) turns.servers.items;
    }

-- the greatest moment of the actor's own steps
abbrev pub last_by : Store → Turns → ℕ
last_by store turns = last_own (chunk_count store.script.now.geometry) turns.number (seen_by turns)
