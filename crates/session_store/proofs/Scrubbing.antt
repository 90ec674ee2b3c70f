-- A scrub is served, and so is what leaves the places.
use Rattle.std.proofs.Common.{◌≡◌, ◌⊎◌, ℕ, ◌+◌, ◌≤◌, ◌<◌, ◌^◌, false, List, [], ◌∷◌, length, map, All, refl, sym, ap, ◌∙◌, inl, inr, arith}
use Rattle.std.proofs.lemmas.List.Elements.{All-nil, All-cons, All-head, All-tail}
use Rattle.clay_grid.specs.Shape.{chunk_count}
use Rattle.store_map.specs.declared.actor.Actor.TheVariants as actor
use Rattle.store_core.specs.Server.{Server}
use Rattle.chunk_server.specs.Core.{core_of}
use Rattle.chunk_server.specs.State.{ServerState}
use Rattle.session_rules.specs.State.{State}
use Rattle.session_rules.specs.Shortages.{IsServed}
use Rattle.session_rules.specs.declared.session_answer.Answer.{Answer}
use Rattle.session_rules.specs.declared.session_answer.LostChunk.{LostChunk}
use Rattle.session_rules.specs.declared.request.Request.{Request}
use Rattle.session_rules.specs.Scrubs.{lost_at}
use Rattle.session_rules.proofs.Scrubs.{scrubs_are_seen}
use Rattle.store_scrub.specs.Lost.{ArePresent}
use Rattle.session_store.specs.Kept.{IsStore, ServesRequest}
use Rattle.session_store.specs.Standing.{StandsAt, seats_at}
use Rattle.session_store.specs.Stored.{StoreOf, places_in}
use Rattle.session_store.proofs.Numbers.{passed_over, fresh_later}
use Rattle.session_store.proofs.Seating.{seat_later, tickets_later}
use Rattle.session_store.proofs.Standing.{later_epochs}

-- the store after a request that does nothing
abbrev pub one_more : StoreOf → StoreOf
one_more old = record old { served = old.served + 1 }

module _ (old : StoreOf) (is : IsStore old) where
  pub stands_more : (s : State) → StandsAt old s → StandsAt (one_more old) s
  stands_more s at = record {
    calls = at.calls;
    stands = at.stands;
    between = passed_over at.calls old.geometry old.max (seats_at old.served) (old.served + 1) (old.served + 1) (old.served + 1) at.stands (places_in old) s (omega arith) (omega arith) (omega arith) at.between;
    contents = at.contents;
    fresh = fresh_later at.calls old.served at.fresh;
    next = at.next;
    epochs = later_epochs s.epochs s.epochs old.served refl at.epochs;
    snapshot = at.snapshot;
  }

  pub left_served : (request : Request) (answer : Answer) → ((s : State) → StandsAt old s → IsServed old.geometry old.max request s (s, answer)) → ServesRequest request old answer (one_more old)
  left_served request answer served = record {
    serves = λ s at. record { after = s; served = served s at; stands = stands_more s at };
    same = refl;
    kept = record {
      code = is.code;
      wide = is.wide;
      free = is.free;
      book = is.book;
      most = is.most;
      small = is.small;
      servers = is.servers;
      client = seat_later old.kept.directory.core (actor.Client 0) old.served (old.served + 1) old.kept.client (omega arith) is.client;
      repairer = seat_later old.kept.directory.core (actor.Repairer 0) old.served (old.served + 1) old.kept.repairer (omega arith) is.repairer;
      healer = is.healer;
      tickets = tickets_later old.kept.directory.core old.served (old.served + 1) old.kept.book (omega arith) old.kept.snapshot old.kept.tickets is.tickets;
      state = is.state;
      stands = stands_more is.state is.stands;
    };
  }

  -- ---- a scrub
  present_by : (servers : List ServerState) → All (λ (server : Server). server.away ≡ false) (map core_of servers) → ArePresent servers
  present_by [] all = All-nil (λ (server : ServerState). server.away ≡ false)
  present_by (server ∷ servers) all =
      All-cons (λ (server : ServerState). server.away ≡ false) server servers (All-head (λ (server : Server). server.away ≡ false) (core_of server) (map core_of servers) all)
      (present_by servers (All-tail (λ (server : Server). server.away ≡ false) (core_of server) (map core_of servers) all))

  pub all_present : ArePresent old.kept.servers
  all_present = present_by old.kept.servers is.stands.between.seen.present

  pub all_there : length old.kept.servers ≡ chunk_count old.kept.directory.core.shape
  all_there = is.servers.count ∙ ap chunk_count (is.free.0 ∙ sym is.stands.between.seen.shape)

  pub scrub_served : (lost : List LostChunk) → lost ≡ lost_at (places_in old) → ServesRequest Request.Scrub old (Answer.Scrubbed lost) (one_more old)
  scrub_served lost same =
      left_served Request.Scrub (Answer.Scrubbed lost)
      (λ s at. inl (λ i. (s, Answer.Scrubbed ((same ∙ sym (scrubs_are_seen old.geometry old.max at.stands (places_in old) s at.between.seen)) i))))

  pub scrub_wanting : ServesRequest Request.Scrub old Answer.NoMemory (one_more old)
  scrub_wanting = left_served Request.Scrub Answer.NoMemory (λ s at. inr (refl, refl))
