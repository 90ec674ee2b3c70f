-- What a request leaves whose calls ran alone, and the sweeper after them: the store stands at the state after it.
use Rattle.std.proofs.Common.{◌≡◌, ℕ, ◌+◌, ◌<◌, ◌≤◌, ◌^◌, false, List, Option, Some, refl, sym, ap, subst, ◌∙◌, arith}
use Rattle.clay_grid.specs.Shape.{stripe_length}
use Rattle.clay_grid.specs.Limits.{IsGeometry}
use Rattle.store_map.specs.declared.actor.Actor.{Actor}
use Rattle.store_map.specs.declared.actor.Actor.TheVariants as actor
use Rattle.store_core.specs.Agreement.{Seat, ActorToken, Agrees}
use Rattle.store_core.specs.Calls.{Calls}
use Rattle.store_core.specs.Lookups.{same_actor}
use Rattle.store_core.specs.Tokens.{actor_of}
use Rattle.version_seal.specs.Entry.{BookOf}
use Rattle.stripe_stamps.specs.Stamped.{HaveContents}
use Rattle.session_rules.specs.State.{State}
use Rattle.session_rules.specs.Shortages.{IsServed}
use Rattle.session_rules.specs.declared.session_answer.Answer.{Answer}
use Rattle.session_rules.specs.declared.request.Request.{Request}
use Rattle.session_rules.specs.Between.{IsBetween}
use Rattle.call_machine.specs.Calls.{MachineOf}
use Rattle.session_store.specs.declared.session_parts.Parts.{Parts}
use Rattle.session_store.specs.declared.places.SessionPlaces.{SessionPlaces}
use Rattle.session_store.specs.Inside.{store_of}
use Rattle.session_store.specs.Kept.{HasSeat, IsStore, ServesRequest}
use Rattle.session_store.specs.Places.{ArePlaces, seen_in}
use Rattle.session_store.specs.Running.{HasRunTo, IsLow}
use Rattle.session_store.specs.Serving.{Serves}
use Rattle.session_store.specs.Standing.{AreKept, IsFresh, StandsAt, seats_at}
use Rattle.session_store.specs.Sweeping.{HasSwept}
use Rattle.session_store.proofs.Seating.{tickets_still}
use Rattle.session_store.proofs.Standing.{later_epochs}

-- ---- of the places: they stay of the same book, and the directory agrees with the tickets of all others with which it agreed
pub record LeavesPlaces (parts : Parts) (who : Actor) (places : SessionPlaces) : Type 0 where
  pub are : ArePlaces places
  pub book : places.book ≡ parts.places.book
  pub most : places.directory.core.max ≡ parts.places.directory.core.max
  pub others :
      (token : ActorToken) → same_actor who (actor_of token) ≡ false → same_actor actor.Sweeper (actor_of token) ≡ false → Agrees parts.places.directory.core token →
      Agrees places.directory.core token

-- one call and the sweeper after it
module _ (parts : Parts) (who : Actor) (first c : MachineOf) (left now : SessionPlaces) (ran : HasRunTo first parts.places c left) (swept : HasSwept left now) (who_is : actor_of first.call.token ≡ who) where
  pub run_leaves : now.directory.core.max ≡ parts.places.directory.core.max → LeavesPlaces parts who now
  run_leaves most = record {
    are = swept.keeps.same.places;
    book = swept.keeps.same.book ∙ ran.same.book;
    most = most;
    others = λ token apart unswept agrees. swept.keeps.agrees token unswept (ran.others token (ap (λ a. same_actor a (actor_of token)) who_is ∙ apart) agrees);
  }

  -- its actor has a seat again
  pub seat_back : (n : ℕ) → first.call.number ≡ n → same_actor actor.Sweeper who ≡ false → (seat : Seat) → ActorToken.Seated seat ≡ c.call.token → HasSeat now.directory.core who (n + 1) (Some seat)
  seat_back n number unswept seat is =
      let its : seat.actor ≡ who = ap actor_of is ∙ ran.run.its.its_actor ∙ who_is in
      record {
        seat = seat;
        there = refl;
        actor = its;
        unused = subst (λ n. seat.unused ≤ n + 1) number (subst (IsLow first.call.number) (sym is) ran.low);
        agrees = swept.keeps.agrees (ActorToken.Seated seat) (ap (same_actor actor.Sweeper) its ∙ unswept) (subst (Agrees left.directory.core) (sym is) ran.agrees);
      }

module _ (parts : Parts) (is : IsStore (store_of parts)) (who : Actor) (places : SessionPlaces) (left : LeavesPlaces parts who places) where
  -- the others' seats
  pub seat_still : (other : Actor) (n m : ℕ) (place : Option Seat) → n ≤ m → same_actor who other ≡ false → same_actor actor.Sweeper other ≡ false → HasSeat parts.places.directory.core other n place → HasSeat places.directory.core other m place
  seat_still other n m place less apart unswept has = record {
    seat = has.seat;
    there = has.there;
    actor = has.actor;
    unused = (let low = has.unused in omega (arith, less, low));
    agrees = left.others (ActorToken.Seated has.seat) (ap (same_actor who) has.actor ∙ apart) (ap (same_actor actor.Sweeper) has.actor ∙ unswept) has.agrees;
  }

  -- ---- of a state at which the store stood
  module _ (request : Request) (answer : Answer) (client repairer healer : Option Seat) (next : ℕ) where
    pub record LeavesState (s : State) : Type 0 where
      pub after : State
      pub served : IsServed parts.places.book.geometry parts.places.directory.core.max request s (after, answer)
      pub calls : Calls
      pub stands : List ℕ
      pub between : IsBetween calls parts.places.book.geometry parts.places.directory.core.max (seats_at (parts.served + 1)) stands (seen_in places) after
      pub contents : HaveContents calls places.directory
      pub fresh : IsFresh calls (parts.served + 1)
      pub next_is : after.next ≡ next
      pub epochs : after.epochs ≡ s.epochs
      pub snapshot : after.snapshot ≡ s.snapshot

    abbrev parts_after : Parts
    parts_after = record parts { places = places; served = parts.served + 1; client = client; repairer = repairer; healer = healer; next = next }

    module _ (ends : (s : State) → StandsAt (store_of parts) s → LeavesState s) where
      module _ (s : State) (at : StandsAt (store_of parts) s) where
        abbrev its : LeavesState s
        its = ends s at

        stands_after : StandsAt (store_of parts_after) its.after
        stands_after = record {
          calls = its.calls;
          stands = its.stands;
          between =
              subst (λ (b : BookOf). IsBetween its.calls b.geometry places.directory.core.max (seats_at (parts.served + 1)) its.stands (seen_in places) its.after) (sym left.book)
              (subst (λ m. IsBetween its.calls parts.places.book.geometry m (seats_at (parts.served + 1)) its.stands (seen_in places) its.after) (sym left.most) its.between);
          contents = its.contents;
          fresh = its.fresh;
          next = its.next_is;
          epochs = later_epochs s.epochs its.after.epochs parts.served its.epochs at.epochs;
          snapshot = subst (λ x. AreKept x parts.snapshot) (sym its.snapshot) at.snapshot;
        }

        serves : Serves request s answer (store_of parts_after)
        serves = record {
          after = its.after;
          served =
              subst (λ (b : BookOf). IsServed b.geometry places.directory.core.max request s (its.after, answer)) (sym left.book)
              (subst (λ m. IsServed parts.places.book.geometry m request s (its.after, answer)) (sym left.most) its.served);
          stands = stands_after;
        }

      pub request_is_served : ((n : ℕ) → 0 < n → same_actor who (actor.Client n) ≡ false) → HasSeat places.directory.core (actor.Client 0) (parts.served + 1) client → HasSeat places.directory.core (actor.Repairer 0) (parts.served + 1) repairer →
          HasSeat places.directory.core (actor.Repairer 1) next healer → ServesRequest request (store_of parts) answer (store_of parts_after)
      request_is_served no_reader its_client its_repairer its_healer = record {
        serves = serves;
        same = λ i. record { geometry = ap (λ (b : BookOf). b.geometry) left.book i; max = left.most i; served = parts.served + 1; kept = (store_of parts_after).kept };
        kept = record {
          code = subst (λ (b : BookOf). IsGeometry b.geometry) (sym left.book) is.code;
          wide = subst (λ (b : BookOf). 0 < stripe_length b.geometry) (sym left.book) is.wide;
          free = (refl, left.are.free);
          book = left.are.book;
          most = refl;
          small = subst (λ m. m < 2 ^ 32) (sym left.most) is.small;
          servers = left.are.servers;
          client = its_client;
          repairer = its_repairer;
          healer = its_healer;
          tickets = tickets_still parts.places.directory.core places.directory.core who no_reader left.others parts.served (parts.served + 1) parts.places.book places.book left.book (omega arith) parts.snapshot (store_of parts).kept.tickets is.tickets;
          state = (ends is.state is.stands).after;
          stands = stands_after is.state is.stands;
        };
      }
