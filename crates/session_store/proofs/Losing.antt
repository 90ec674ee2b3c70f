-- A loss is served.
use Rattle.std.proofs.Common.{◌≡◌, ℕ, ◌+◌, ◌-◌, ◌^◌, ◌≤◌, ◌<◌, false, length, get_or, set, refl, ap, subst, ◌∙◌, arith, inl}
use Rattle.clay_grid.specs.Shape.{chunk_count}
use Rattle.store_map.specs.declared.actor.Actor.TheVariants as actor
use Rattle.store_map.specs.declared.reply.Reply.TheVariants as reply
use Rattle.store_core.specs.Act.{Act, ServerStep}
use Rattle.store_core.specs.Server.{at_server}
use Rattle.store_core.specs.Step.{Places, at_places}
use Rattle.store_core.specs.Told.{Told}
use Rattle.chunk_server.specs.Core.{core_of}
use Rattle.chunk_server.specs.State.{ServerState}
use Rattle.session_rules.specs.State.{State}
use Rattle.session_rules.specs.Rebuilds.{lose}
use Rattle.session_rules.specs.declared.session_answer.Answer.{Answer}
use Rattle.session_rules.specs.declared.request.Request.{Request}
use Rattle.session_rules.specs.Between.{IsBetween}
use Rattle.session_rules.specs.Serving.{IsServedAlone}
use Rattle.session_rules.proofs.Repairs.{has_parity, loss_served}
use Rattle.session_store.specs.Stored.{StoreOf, places_in}
use Rattle.session_store.specs.Standing.{seats_at, StandsAt}
use Rattle.session_store.specs.Serving.{Serves}
use Rattle.session_store.specs.Kept.{IsStore, ServesRequest}
use Rattle.session_store.proofs.Lists.{got, servers_set, step_at}
use Rattle.session_store.proofs.Numbers.{passed_over, fresh_later}
use Rattle.session_store.proofs.Seating.{seat_later, tickets_later}
use Rattle.session_store.proofs.Standing.{lost_epochs}

module _ (old : StoreOf) (is : IsStore old) (few : old.served + 1 < 2 ^ 32) (server : ℕ) (s now : ServerState)
    (less : server < length old.kept.servers) (read : s ≡ get_or old.kept.servers server s) (wiped : (core_of now, Told.Made) ≡ at_server false ServerStep.Wipe (core_of s)) (number : now.number ≡ s.number) (its : now.book ≡ s.book) where
  abbrev after : StoreOf
  after = record old { served = old.served + 1; kept = record (old.kept) { servers = set old.kept.servers server now } }

  abbrev left : Places
  left = (at_places false actor.Operator 0 (Act.AtServer server ServerStep.Wipe) (places_in old)).0

  there : left ≡ places_in after
  there = ap (λ (p : Places × Told). p.0) (step_at old.kept.directory.core old.kept.servers server s now less read false actor.Operator 0 ServerStep.Wipe Told.Made wiped)

  below : server < chunk_count old.geometry
  below = subst (λ n. server < n) (is.servers.count ∙ ap chunk_count is.free.0) less

  module _ (before : State) (at : StandsAt old before) where
    alone : IsServedAlone at.calls old.geometry old.max 1 (seats_at old.served) before (Request.Lose server) (places_in old)
    alone =
        loss_served at.calls old.geometry old.max 1 (seats_at old.served) at.stands (places_in old) before is.wide (has_parity old.geometry is.code) at.between server below
        (let low = at.epochs server in omega (arith, few, low))

    between : IsBetween at.calls old.geometry old.max (seats_at (old.served + 1)) alone.stands (places_in after) (lose server before)
    between =
        subst (λ (p : Places). IsBetween at.calls old.geometry old.max (seats_at (old.served + 1)) alone.stands p (lose server before)) (alone.served ∙ there)
        (passed_over at.calls old.geometry old.max (seats_at old.served) (old.served + 1) (old.served + 1) (old.served + 1) alone.stands alone.after (lose server before) (omega arith) (omega arith) (omega arith) alone.between)

    stands_after : StandsAt after (lose server before)
    stands_after = record {
      calls = at.calls;
      stands = alone.stands;
      between = between;
      contents = at.contents;
      fresh = fresh_later at.calls old.served at.fresh;
      next = at.next;
      epochs = lost_epochs before.epochs server old.served at.epochs;
      snapshot = at.snapshot;
    }

    serves : Serves (Request.Lose server) before (Answer.Replied reply.Done) after
    serves = record { after = lose server before; served = inl refl; stands = stands_after }

  same_server : (now.number ≡ server) × (now.book ≡ old.kept.book)
  same_server = let there = is.servers.each server s (got old.kept.servers server s less read) in (number ∙ there.0, its ∙ there.1)

  pub loss_is_served : ServesRequest (Request.Lose server) old (Answer.Replied reply.Done) after
  loss_is_served = record {
    serves = serves;
    same = refl;
    kept = record {
      code = is.code;
      wide = is.wide;
      free = is.free;
      book = is.book;
      most = is.most;
      small = is.small;
      servers = servers_set old.kept.book old.kept.servers server now is.servers same_server.0 same_server.1;
      client = seat_later old.kept.directory.core (actor.Client 0) old.served (old.served + 1) old.kept.client (omega arith) is.client;
      repairer = seat_later old.kept.directory.core (actor.Repairer 0) old.served (old.served + 1) old.kept.repairer (omega arith) is.repairer;
      healer = is.healer;
      tickets = tickets_later old.kept.directory.core old.served (old.served + 1) old.kept.book (omega arith) old.kept.snapshot old.kept.tickets is.tickets;
      state = lose server is.state;
      stands = stands_after is.state is.stands;
    };
  }
