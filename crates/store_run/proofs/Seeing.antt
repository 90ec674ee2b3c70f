-- The last histories have all entries that the turns of an actor have seen of its own.
use Rattle.std.proofs.Common.{◌≡◌, ℕ, ◌<◌, List, length, map, slice_get, Some, sym, ap, ◌∙◌, arith}
use Rattle.std.proofs.lemmas.List.{length-map}
use Rattle.std.proofs.lemmas.Option.{same_Some, slice_get_within}
use Rattle.dir_parts.proofs.Entries.{slice_get-map}
use Rattle.thread_laws.specs.MadeSteps.{MadeStep}
use Rattle.turn_lock.specs.History.{entries_of}
use Rattle.turn_lock.specs.TurnState.{TurnState}
use Rattle.turn_lock.specs.Joined.{HasOwn}
use Rattle.turn_lock.proofs.JoinedLists.{at_place}
use Rattle.turn_lock.specs.Out.{HasOwnAt}
use Rattle.turn_lock.specs.Piles.{items_of}
use Rattle.thread_laws.specs.Noted.{Noted}
use Rattle.thread_laws.specs.Logs.{HasSeenOwn, Logs}
use Rattle.thread_laws.proofs.Seen.{histories_have_all}
use Rattle.run_seats.specs.Places.{seen_by}
use Rattle.run_seats.specs.declared.directory_box.DirectoryIdentity.{DirectoryIdentity}
use Rattle.run_seats.specs.declared.seated_actor.SeatedActor.{SeatedActor}
use Rattle.run_seats.specs.declared.server_box.ServerIdentity.{ServerIdentity}
use Rattle.run_seats.specs.declared.store.Store.{Store}
use Rattle.store_run.specs.Left.{HasLeft, turns_in}
use Rattle.store_run.specs.declared.left_workers.Left.{Left}

module _ (store : Store) (left : Left) (has : HasLeft store left) (n : ℕ) (actor : SeatedActor) (there : slice_get has.actors n ≡ Some actor) where
  -- its turn at the directory, and its row of turns
  pub its_turn : slice_get left.directory.items n ≡ Some (turns_in actor).directory
  its_turn = ap (λ (xs : List (TurnState DirectoryIdentity Noted)). slice_get xs n) has.directory ∙ slice_get-map (λ (a : SeatedActor). (turns_in a).directory) has.actors n actor there

  its_row : slice_get (items_of left.rows.items) n ≡ Some (turns_in actor).servers.items
  its_row = ap (λ (xs : List (List (TurnState ServerIdentity MadeStep))). slice_get xs n) has.rows ∙ slice_get-map (λ (a : SeatedActor). (turns_in a).servers.items) has.actors n actor there

  module _ (logs : Logs) (directory : HasOwn left.directory.items logs.directory)
      (servers : (j : ℕ) (log : List (ℕ × MadeStep)) → slice_get logs.servers j ≡ Some log → HasOwnAt (items_of left.rows.items) j log)
      (wide : length logs.servers ≡ length (turns_in actor).servers.items) where
    -- what the turn at a server has seen
    of_server : (j : ℕ) (log own : List (ℕ × MadeStep)) → slice_get logs.servers j ≡ Some log → slice_get (seen_by (turns_in actor)).servers j ≡ Some own → entries_of n log ≡ entries_of n own
    of_server j log own e f =
        let row : List (TurnState ServerIdentity MadeStep) = (turns_in actor).servers.items in
        let mapped : j < length (map (λ (t : TurnState ServerIdentity MadeStep). t.seen) row) = slice_get_within (map (λ (t : TurnState ServerIdentity MadeStep). t.seen) row) j own f in
        let turn : (t : TurnState ServerIdentity MadeStep) × (slice_get row j ≡ Some t) = at_place row j (omega (arith, mapped, length-map row (λ (t : TurnState ServerIdentity MadeStep). t.seen))) in
        let seen : turn.0.seen ≡ own = same_Some turn.0.seen own (sym (slice_get-map (λ (t : TurnState ServerIdentity MadeStep). t.seen) row j turn.0 turn.1) ∙ f) in
        servers j log e n row turn.0 its_row turn.1 ∙ ap (λ (l : List (ℕ × MadeStep)). entries_of n l) seen

    pub sees_own : HasSeenOwn n (seen_by (turns_in actor)) logs
    sees_own =
        histories_have_all n (seen_by (turns_in actor)) logs
        (record {
          directory = directory n (turns_in actor).directory its_turn;
          wide = wide ∙ sym (length-map (turns_in actor).servers.items (λ (t : TurnState ServerIdentity MadeStep). t.seen));
          servers = of_server;
        })
