-- The turns of a number that was just dealt, and what is left of the deck.
use Rattle.std.proofs.Common.{◌≡◌, ℕ, ◌+◌, ◌<◌, [], ◌∷◌, ◌++◌, length, slice_get, Some, sym, ap, ◌∙◌, arith}
use Rattle.std.proofs.lemmas.Option.{slice_get_within}
use Rattle.atomic_table.specs.Seated.{TableId}
use Rattle.thread_laws.specs.MadeSteps.{MadeStep}
use Rattle.turn_lock.specs.TurnState.{TurnState, new_turn}
use Rattle.turn_lock.proofs.Dealing.{turn_first, turn_taken, turns_left}
use Rattle.turn_lock.proofs.JoinedLists.{at_place}
use Rattle.turn_lock.specs.Piles.{items_of}
use Rattle.turn_lock.specs.Rows.{ArePiles, DealOf, IsNewRow}
use Rattle.thread_laws.specs.Noted.{Noted}
use Rattle.run_seats.specs.Places.{IsStore, directory_of, server_of}
use Rattle.run_seats.specs.declared.directory_box.DirectoryIdentity.{DirectoryIdentity}
use Rattle.run_seats.specs.declared.server_box.ServerIdentity.{ServerIdentity}
use Rattle.run_seats.specs.declared.store.Store.{Store}
use Rattle.run_seats.specs.declared.seat_turns.Turns.{Turns}
use Rattle.store_run.specs.Dealt.{IsDeck}
use Rattle.store_run.specs.First.{AreNew}
use Rattle.store_run.specs.declared.deck.Deck.{Deck}

-- the deal of a number's turns at the servers
abbrev pub deal_of : Store → ℕ → DealOf ServerIdentity
deal_of store number = record { identity = server_of store; locks = store.servers.items; number = number }

module _ (store : Store) (store_is : IsStore store) (number : ℕ) (old now : Deck) (turns : Turns) (deck : IsDeck store (number + 1) old)
    (taken : old.directory.items ≡ now.directory.items ++ turns.directory ∷ [])
    (row : IsNewRow (server_of store) store.servers.items number turns.servers.items) (numbered : turns.number ≡ number) where
  pub deck_left : ArePiles (server_of store) store.servers.items number (items_of now.servers.items) → IsDeck store number now
  deck_left left = record {
    directory = turns_left store.directory (directory_of store) number old.directory.items now.directory.items turns.directory taken deck.directory;
    servers = left;
  }

  directory_is : turns.directory ≡ new_turn store.directory (directory_of store) number
  directory_is = turn_taken store.directory (directory_of store) number old.directory.items now.directory.items turns.directory taken deck.directory

  -- no more were dealt than there are servers
  server_is :
      (j : ℕ) (turn : TurnState ServerIdentity MadeStep) → slice_get turns.servers.items j ≡ Some turn →
      (lock : TableId) × (turn ≡ new_turn lock (server_of store j) number)
  server_is j turn e =
      let within : j < length turns.servers.items = slice_get_within turns.servers.items j turn e in
      let found : (lock : TableId) × (slice_get store.servers.items j ≡ Some lock) = at_place store.servers.items j (omega (arith, within, row.wide)) in
      (found.0, row.each j found.0 turn found.1 e)

  pub turns_new : AreNew store turns
  turns_new =
      record {
        has = record {
          directory =
              turn_first store.directory (directory_of store) turns.number turns.directory
              (directory_is ∙ ap (new_turn store.directory (directory_of store)) (sym numbered));
          count = row.wide ∙ store_is.count;
          servers = λ j lock turn f e.
              turn_first lock (server_of store j) turns.number turn (row.each j lock turn f e ∙ ap (new_turn lock (server_of store j)) (sym numbered));
        };
        directory = ap (λ (t : TurnState DirectoryIdentity Noted). t.seen) directory_is;
        servers = λ j turn e. ap (λ (t : TurnState ServerIdentity MadeStep). t.seen) (server_is j turn e).1;
      }
