-- The turns at a store's locks that no actor has yet.
use Rattle.std.specs.Prelude.{◌≡◌, ℕ, ◌+◌, List, length, Vec}
use Rattle.std.specs.Global.{Global}
use Rattle.atomic_table.specs.Seated.{TableId}
use Rattle.clay_grid.specs.Shape.{chunk_count}
use Rattle.store_map.specs.declared.script.Script.{Script}
use Rattle.thread_laws.specs.MadeSteps.{MadeStep}
use Rattle.version_seal.specs.Entry.{BookOf}
use Rattle.turn_lock.specs.TurnState.{TurnState}
use Rattle.turn_lock.specs.Dealt.{AreTurns}
use Rattle.turn_lock.specs.Piles.{items_of}
use Rattle.turn_lock.specs.Rows.{ArePiles}
use Rattle.run_seats.specs.Places.{directory_of, server_for, server_of}
use Rattle.run_seats.specs.declared.server_box.ServerIdentity.{ServerIdentity}
use Rattle.run_seats.specs.declared.store.Store.{Store}
use Rattle.store_run.specs.declared.deck.Deck.{Deck}

-- how many turns each lock has: one of each client and repairer, of the sweeper and of the operator
abbrev pub turns_of : Script → ℕ
turns_of script = length script.clients + length script.repairers + 2

-- at each lock of a store those of the numbers below this one
pub record IsDeck (store : Store) (count : ℕ) (deck : Deck) : Type 0 where
  pub directory : AreTurns store.directory (directory_of store) count deck.directory.items
  pub servers : ArePiles (server_of store) store.servers.items count (items_of deck.servers.items)

-- the locks of all servers of a script's stripes, with all turns at each
pub record AreServersDealt (script : Script) (book : BookOf) (locks : List TableId) (turns : List (Vec (TurnState ServerIdentity MadeStep) Global)) : Type 0 where
  pub count : length locks ≡ chunk_count script.geometry
  pub piles : ArePiles (server_for script book) locks (turns_of script) (items_of turns)
