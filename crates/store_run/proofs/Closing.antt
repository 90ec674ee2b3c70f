-- All turns at a store's locks are back, and the places come out of their boxes.
use Rattle.std.proofs.Common.{◌≡◌, ℕ, ◌<◌, List, length, map, slice_get, Some, refl, sym, ap, subst, ◌∙◌, arith}
use Rattle.std.proofs.lemmas.List.{length-map}
use Rattle.thread_laws.specs.MadeSteps.{MadeStep}
use Rattle.run_laws.proofs.Scripts.{Mapped, mapped}
use Rattle.chunk_server.specs.State.{ServerState}
use Rattle.turn_lock.specs.TurnState.{TurnState}
use Rattle.turn_lock.specs.Dealt.{IsTurnAt}
use Rattle.turn_lock.specs.Joined.{AreAll, IsWhole}
use Rattle.turn_lock.specs.Out.{AreOut, AreRows, IsOut}
use Rattle.turn_lock.specs.Piles.{items_of}
use Rattle.thread_laws.specs.AtDirectory.{StandsAtDirectory}
use Rattle.thread_laws.specs.AtServer.{StandsAtServer}
use Rattle.chunk_server.specs.Core.{core_of}
use Rattle.thread_laws.specs.Noted.{Noted}
use Rattle.run_seats.specs.Fixed.{DirectoryStands, ServerStands, counts_of, counts_there, directory_identity, server_identity}
use Rattle.run_seats.specs.Places.{HasTurns, IsStore, directory_of, server_of}
use Rattle.run_seats.specs.SeatedActors.{IsSeatedActor, number_of}
use Rattle.run_seats.specs.declared.directory_box.DirectoryBox.{DirectoryBox}
use Rattle.run_seats.specs.declared.directory_box.DirectoryIdentity.{DirectoryIdentity}
use Rattle.run_seats.specs.declared.seated_actor.SeatedActor.{SeatedActor}
use Rattle.run_seats.specs.declared.seated_actor.SeatedActor.TheVariants as kind
use Rattle.run_seats.specs.declared.server_box.ServerBox.{ServerBox}
use Rattle.run_seats.specs.declared.server_box.ServerIdentity.{ServerIdentity}
use Rattle.run_seats.specs.declared.store.Store.{Store}
use Rattle.store_run.specs.Closed.{AreServersOut, IsDirectoryOut, IsServerOut}
use Rattle.store_run.specs.Left.{HasLeft, turns_in}
use Rattle.store_run.specs.declared.left_workers.Left.{Left}

-- ---- the turns that actors leave
turns_of_actor : (store : Store) (actor : SeatedActor) → IsSeatedActor store actor → HasTurns store (turns_in actor)
turns_of_actor store (kind.Caller seated) is = is.turns
turns_of_actor store (kind.Sweeper sweeper) is = is.turns
turns_of_actor store (kind.Operator operator) is = is.turns

number_of_turns : (actor : SeatedActor) → (turns_in actor).number ≡ number_of actor
number_of_turns (kind.Caller seated) = refl
number_of_turns (kind.Sweeper sweeper) = refl
number_of_turns (kind.Operator operator) = refl

module _ (store : Store) (store_is : IsStore store) (left : Left) (has : HasLeft store left) where
  -- of the actor at a place
  pub has_turns : (n : ℕ) (actor : SeatedActor) → slice_get has.actors n ≡ Some actor → HasTurns store (turns_in actor)
  has_turns n actor there = turns_of_actor store actor (has.each n actor there).seated_is

  number_is : (n : ℕ) (actor : SeatedActor) → slice_get has.actors n ≡ Some actor → (turns_in actor).number ≡ n
  number_is n actor there = number_of_turns actor ∙ (has.each n actor there).numbered

  some_actors : 0 < length has.actors
  some_actors = omega (arith, has.count)

  pub all_turns : AreAll store.directory (directory_of store) left.directory.items
  all_turns =
      record {
        some = (let all = ap length has.directory in let long = length-map has.actors (λ (a : SeatedActor). (turns_in a).directory) in omega (arith, all, long, some_actors));
        each = λ n turn e.
            let one : Mapped (λ (a : SeatedActor). (turns_in a).directory) has.actors n turn =
            mapped (λ (a : SeatedActor). (turns_in a).directory) has.actors n turn (sym (ap (λ (xs : List (TurnState DirectoryIdentity Noted)). slice_get xs n) has.directory) ∙ e) in
            let its : IsTurnAt store.directory (directory_of store) n (turns_in one.source).directory =
            subst (λ (k : ℕ). IsTurnAt store.directory (directory_of store) k (turns_in one.source).directory) (number_is n one.source one.found) (has_turns n one.source one.found).directory in
            subst (λ (t : TurnState DirectoryIdentity Noted). IsTurnAt store.directory (directory_of store) n t) one.is_image its;
      }

  -- the actor whose row it is
  row_of : (n : ℕ) (row : List (TurnState ServerIdentity MadeStep)) → slice_get (items_of left.rows.items) n ≡ Some row → Mapped (λ (a : SeatedActor). (turns_in a).servers.items) has.actors n row
  row_of n row e =
      mapped (λ (a : SeatedActor). (turns_in a).servers.items) has.actors n row (sym (ap (λ (xs : List (List (TurnState ServerIdentity MadeStep))). slice_get xs n) has.rows) ∙ e)

  pub all_rows : AreRows (server_of store) store.servers.items (items_of left.rows.items)
  all_rows =
      record {
        some = (let all = ap length has.rows in let long = length-map has.actors (λ (a : SeatedActor). (turns_in a).servers.items) in omega (arith, all, long, some_actors));
        wide = λ n row e.
            let one : Mapped (λ (a : SeatedActor). (turns_in a).servers.items) has.actors n row = row_of n row e in
            sym (ap length one.is_image) ∙ ((has_turns n one.source one.found).count ∙ sym store_is.count);
        each = λ n j row lock turn e l t.
            let one : Mapped (λ (a : SeatedActor). (turns_in a).servers.items) has.actors n row = row_of n row e in
            let its : slice_get (turns_in one.source).servers.items j ≡ Some turn = ap (λ (xs : List (TurnState ServerIdentity MadeStep)). slice_get xs j) one.is_image ∙ t in
            subst (λ (k : ℕ). IsTurnAt lock (server_of store j) k turn) (number_is n one.source one.found) ((has_turns n one.source one.found).servers j lock turn l its);
      }

-- ---- the values out of their boxes
pub directory_out : (store : Store) (identity : DirectoryIdentity) (turns : List (TurnState DirectoryIdentity Noted)) (held : DirectoryBox) (log : List (ℕ × Noted)) → identity ≡ directory_of store
    → directory_identity held ≡ identity → DirectoryStands held log → IsWhole turns log → IsDirectoryOut store turns held.directory
directory_out store identity turns held log of fixed stands whole =
    record {
      log = log;
      book = ap (λ (i : DirectoryIdentity). i.opening) same;
      stands = subst (λ (i : DirectoryIdentity). StandsAtDirectory (counts_there i) i.max held.directory log) same stands.0;
      whole = whole;
    }
  where
    same : directory_identity held ≡ directory_of store
    same = fixed ∙ of

module _ (store : Store) (identity : ℕ → ServerIdentity) (rows : List (List (TurnState ServerIdentity MadeStep))) (of : identity ≡ server_of store) where
  server_out : (j : ℕ) (held : ServerBox) (log : List (ℕ × MadeStep)) → IsOut server_identity ServerStands identity rows j held log → IsServerOut store rows j held.server log
  server_out j held log out =
      record {
        number_is = number_is;
        stands =
            subst (λ (n : ℕ). StandsAtServer (counts_of (server_of store j)) n (core_of held.server) log) number_is
            (subst (λ (i : ServerIdentity). StandsAtServer (counts_of i) held.server.number (core_of held.server) log) same out.stands_is.0);
        own = out.own;
      }
    where
      same : server_identity held ≡ server_of store j
      same = out.identity_is ∙ ap (λ (f : ℕ → ServerIdentity). f j) of

      number_is : held.server.number ≡ j
      number_is = ap (λ (i : ServerIdentity). i.number) same

  pub servers_out : (boxes : List ServerBox) (servers : List ServerState) (count : ℕ) → count ≡ length store.servers.items → AreOut server_identity ServerStands identity rows count boxes
      → servers ≡ map (λ (held : ServerBox). held.server) boxes → AreServersOut store rows servers
  servers_out boxes servers count all out is =
      record {
        count = ap length is ∙ (length-map boxes (λ (held : ServerBox). held.server) ∙ (out.wide ∙ all));
        logs = out.logs;
        logged = out.logged ∙ all;
        each = λ j server log e f.
            let one : Mapped (λ (held : ServerBox). held.server) boxes j server =
            mapped (λ (held : ServerBox). held.server) boxes j server (sym (ap (λ (xs : List ServerState). slice_get xs j) is) ∙ e) in
            subst (λ (s : ServerState). IsServerOut store rows j s log) one.is_image (server_out j one.source log (out.each j one.source log one.found f));
      }
