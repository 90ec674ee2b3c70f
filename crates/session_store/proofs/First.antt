-- A store before its first request stands at the first state.
use Rattle.std.proofs.Common.{◌≡◌, ℕ, zero, suc, ◌+◌, ◌<◌, ◌≤◌, false, nat_eq, List, [], ◌∷◌, length, map, get_or, replicate, slice_get, Option, None, Some, All, refl, sym, ap, subst, ◌∙◌, arith}
use Rattle.std.specs.List.{range_with_len, AllByRecursion, AllPairs, IsDistinct}
use Rattle.std.proofs.lemmas.Bool.{ne_eqb}
use Rattle.std.proofs.lemmas.List.{length-map}
use Rattle.std.proofs.lemmas.List.FromFn.{length-range_with_len}
use Rattle.std.proofs.lemmas.List.Elements.{All-nil, All-cons}
use Rattle.std.proofs.lemmas.List.Kept.{AllPairs-cons}
use Rattle.std.proofs.lemmas.Option.{same_Some, none-some}
use Rattle.clay_grid.specs.Shape.{Shape, chunk_count}
use Rattle.store_map.specs.declared.actor.Actor.{Actor}
use Rattle.store_map.specs.declared.actor.Actor.TheVariants as actor
use Rattle.store_core.specs.Agreement.{Seat, ActorToken, Agrees}
use Rattle.store_core.specs.Calls.{Calls}
use Rattle.store_core.specs.Directory.{new_directory}
use Rattle.store_core.specs.Lookups.{same_actor}
use Rattle.store_core.specs.Server.{new_server}
use Rattle.store_core.specs.Step.{Places as CorePlaces}
use Rattle.store_core.specs.Tokens.{actor_of}
use Rattle.run_laws.proofs.OwnSteps.{agreement_goes_on}
use Rattle.version_seal.specs.Entry.{BookOf}
use Rattle.chunk_server.specs.Core.{core_of}
use Rattle.chunk_server.specs.State.{ServerState, empty_server}
use Rattle.stripe_stamps.specs.Sealed.{Sealed}
use Rattle.stripe_dir.specs.Seats.{client_seat, repairer_seat}
use Rattle.stripe_stamps.specs.Stamped.{HaveContents}
use Rattle.stripe_stamps.proofs.StampSteps.{stamps_keep_contents}
use Rattle.session_rules.specs.State.{first_state}
use Rattle.session_rules.specs.Beginnings.{new_places}
use Rattle.session_rules.specs.Between.{IsBetween}
use Rattle.session_rules.specs.Readers.{AreReaders}
use Rattle.session_rules.proofs.Runs.{beginnings_are_between}
use Rattle.snapshot_view.specs.Tickets.{MayGet}
use Rattle.session_store.specs.declared.session_parts.Parts.{Parts}
use Rattle.session_store.specs.Beginning.{AreNew, IsFirst, reader_tickets}
use Rattle.session_store.specs.Inside.{store_of}
use Rattle.session_store.specs.Kept.{HasSeat, AreOfReaders, HoldTickets}
use Rattle.session_store.specs.Places.{seen_in}
use Rattle.session_store.specs.Standing.{readers, seats_at, AreKept, StandsAt}

-- ---- numbers in a row are apart
above : (k a n : ℕ) → k < a → AllByRecursion (λ y. nat_eq k y ≡ false) (range_with_len a n)
above k a zero less = tt
above k a (suc n) less = (ne_eqb k a (λ e. omega (arith, less, e)), above k (a + 1) n (omega (arith, less)))

distinct : (a n : ℕ) → IsDistinct nat_eq (range_with_len a n)
unfolding IsDistinct
distinct a zero = tt
distinct a (suc n) = (above a (a + 1) n (omega arith), distinct (a + 1) n)

its_readers : AreReaders 0 readers
its_readers = record { enough = omega arith; once = distinct 0 65 }

abbrev clients : List ℕ → List Actor
clients numbers = map (λ i. actor.Client i) numbers

from_others : (k a n : ℕ) → k < a → All (λ who. same_actor (actor.Client k) who ≡ false) (clients (range_with_len a n))
from_others k a zero less = All-nil (λ who. same_actor (actor.Client k) who ≡ false)
from_others k a (suc n) less =
    All-cons (λ who. same_actor (actor.Client k) who ≡ false) (actor.Client a) (clients (range_with_len (a + 1) n)) (ne_eqb k a (λ e. omega (arith, less, e))) (from_others k (a + 1) n (omega (arith, less)))

all_apart : (a n : ℕ) → AllPairs (λ p q. same_actor p q ≡ false) (clients (range_with_len a n))
all_apart a zero = λ i j d first last. absurd (omega (arith, last))
all_apart a (suc n) = AllPairs-cons (λ p q. same_actor p q ≡ false) (actor.Client a) (clients (range_with_len (a + 1) n)) (from_others a (a + 1) n (omega arith)) (all_apart (a + 1) n)

-- ---- tickets of a new directory
actors_are : (a n : ℕ) → map actor_of (map (λ i. ActorToken.Seated (client_seat i)) (range_with_len a n)) ≡ clients (range_with_len a n)
actors_are a zero = refl
actors_are a (suc n) = ap (λ l. actor.Client a ∷ l) (actors_are (a + 1) n)

module _ (g : Shape) (max : ℕ) where
  each_agrees : (a n : ℕ) → All (Agrees (new_directory g max)) (map (λ i. ActorToken.Seated (client_seat i)) (range_with_len a n))
  each_agrees a zero = All-nil (Agrees (new_directory g max))
  each_agrees a (suc n) = All-cons (Agrees (new_directory g max)) (ActorToken.Seated (client_seat a)) _ (agreement_goes_on.first g max (actor.Client a)) (each_agrees (a + 1) n)

  new_tickets : AreOfReaders (new_directory g max) (reader_tickets 64)
  new_tickets = record {
    actors = actors_are 1 64;
    agrees = record { each = each_agrees 1 64; apart = subst (AllPairs (λ p q. same_actor p q ≡ false)) (sym (actors_are 1 64)) (all_apart 1 64) };
  }

each_may : (a n : ℕ) → All (MayGet 0) (map (λ i. ActorToken.Seated (client_seat i)) (range_with_len a n))
each_may a zero = All-nil (MayGet 0)
each_may a (suc n) = All-cons (MayGet 0) (ActorToken.Seated (client_seat a)) _ (omega arith, tt) (each_may (a + 1) n)

-- ---- servers of a book
new_cores : (book : BookOf) (a n : ℕ) → map core_of (map (λ number. empty_server number book) (range_with_len a n)) ≡ replicate n new_server
new_cores book a zero = refl
new_cores book a (suc n) = ap (λ l. new_server ∷ l) (new_cores book (a + 1) n)

each_server : (book : BookOf) (a n i : ℕ) (s : ServerState) → slice_get (map (λ number. empty_server number book) (range_with_len a n)) i ≡ Some s → (s.number ≡ a + i) × (s.book ≡ book)
each_server book a zero i s e = absurd (none-some s e)
each_server book a (suc n) zero s e =
    let same : empty_server a book ≡ s = same_Some (empty_server a book) s e in
    (sym (ap (λ (x : ServerState). x.number) same) ∙ omega arith, sym (ap (λ (x : ServerState). x.book) same))
each_server book a (suc n) (suc i) s e =
    let later = each_server book (a + 1) n i s e in
    (later.0 ∙ omega arith, later.1)

module _ (parts : Parts) (new : AreNew parts.places.book.geometry parts.places.directory.core.max parts.places) (client : parts.client ≡ Some (client_seat 0)) (repairer : parts.repairer ≡ Some (repairer_seat 0)) (healer : parts.healer ≡ Some (repairer_seat 1))
    (served : parts.served ≡ 0) (next : parts.next ≡ 0) (none : parts.snapshot ≡ None) (tickets : (store_of parts).kept.tickets ≡ Some (reader_tickets 64)) where
  abbrev g : Shape
  g = parts.places.book.geometry

  abbrev max : ℕ
  max = parts.places.directory.core.max

  abbrev no_calls : Calls
  no_calls who number = None

  core_is : parts.places.directory.core ≡ new_directory g max
  core_is = ap (λ (d : Sealed). d.core) new.directory

  places_are : seen_in parts.places ≡ new_places g max
  places_are = λ i. record { directory = core_is i; servers = (ap (map core_of) new.servers ∙ new_cores parts.places.book 0 (chunk_count g)) i }

  stands : StandsAt (store_of parts) (first_state g)
  stands = record {
    calls = no_calls;
    stands = [];
    between =
        subst (λ n. IsBetween no_calls g max (seats_at n) [] (seen_in parts.places) (first_state g)) (sym served)
        (subst (λ (p : CorePlaces). IsBetween no_calls g max (seats_at 0) [] p (first_state g)) (sym places_are) (beginnings_are_between no_calls g max 0 0 1 readers (λ e. omega (arith, e)) its_readers));
    contents = subst (HaveContents no_calls) (sym new.directory) ((stamps_keep_contents no_calls).first parts.places.book max);
    fresh = λ i number later. refl;
    next = sym next;
    epochs = λ i. subst (λ n. get_or (replicate (chunk_count g) 0) i 0 ≤ n) (sym served) (zeros (chunk_count g) i);
    snapshot = subst (λ x. AreKept None x) (sym none) tt;
  }
    where
      zeros : (n i : ℕ) → get_or (replicate n 0) i 0 ≤ 0
      zeros zero i = omega arith
      zeros (suc n) zero = omega arith
      zeros (suc n) (suc i) = zeros n i

  seat_of : (who : Actor) (number : ℕ) (place : Option Seat) → place ≡ Some (record { actor = who; unused = 0; told = None }) → HasSeat parts.places.directory.core who number place
  seat_of who number place is = record {
    seat = record { actor = who; unused = 0; told = None };
    there = is;
    actor = refl;
    unused = omega arith;
    agrees = subst (λ d. Agrees d (ActorToken.Seated (record { actor = who; unused = 0; told = None }))) (sym core_is) (agreement_goes_on.first g max who);
  }

  pub first_store : IsFirst g max (store_of parts)
  first_store = record {
    geometry = refl;
    most = refl;
    none = served;
    stands = stands;
    kept = record {
      code = new.code;
      wide = new.wide;
      small = new.small;
      free = (refl, new.book.1);
      book = ap (λ (d : Sealed). d.book) new.directory;
      most = refl;
      servers = record {
        count = ap length new.servers ∙ length-map (range_with_len 0 (chunk_count g)) _ ∙ length-range_with_len 0 (chunk_count g);
        each = λ i s e.
            let its = each_server parts.places.book 0 (chunk_count g) i s (ap (λ l. slice_get l i) (sym new.servers) ∙ e) in
            (its.0 ∙ omega arith, its.1);
      };
      client = seat_of (actor.Client 0) parts.served parts.client client;
      repairer = seat_of (actor.Repairer 0) parts.served parts.repairer repairer;
      healer = seat_of (actor.Repairer 1) parts.next parts.healer healer;
      tickets =
          subst (λ s. HoldTickets parts.places.directory.core parts.served parts.places.book s (store_of parts).kept.tickets) (sym none)
          (subst (λ t. HoldTickets parts.places.directory.core parts.served parts.places.book None t) (sym tickets)
          (subst (λ d. AreOfReaders d (reader_tickets 64)) (sym core_is) (new_tickets g max), subst (λ n. All (MayGet n) (reader_tickets 64)) (sym served) (each_may 1 64)));
      state = first_state g;
      stands = stands;
    };
  }
