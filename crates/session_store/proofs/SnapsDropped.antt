-- The snapshot that is open is dropped, and the sweeper comes to its end.
use Rattle.std.proofs.Common.{◌≡◌, ℕ, ◌^◌, nat_eq, ◌<◌, false, List, length, map, take, drop, Option, None, Some, All, IfSome, refl, sym, ap, subst, ◌∙◌, arith, inl}
use Rattle.std.specs.List.{AllByRecursion, IsDistinct}
use Rattle.std.proofs.lemmas.Bool.{ne_eqb}
use Rattle.std.proofs.lemmas.List.{length-map, take-append-drop}
use Rattle.std.proofs.lemmas.List.Elements.{All-nil, All-append, All-take, All-weaker}
use Rattle.clay_grid.specs.Shape.{Shape, stripe_length}
use Rattle.clay_grid.specs.Limits.{IsGeometry}
use Rattle.store_map.specs.declared.actor.Actor.{Actor}
use Rattle.store_map.specs.declared.actor.Actor.TheVariants as actor
use Rattle.store_map.specs.declared.actor.Point.{Point}
use Rattle.store_map.specs.declared.reply.Reply.TheVariants as reply
use Rattle.store_core.specs.Agreement.{Seat, ActorToken, Agrees}
use Rattle.store_core.specs.Content.{contents_by}
use Rattle.store_core.specs.Directory.{Directory}
use Rattle.store_core.specs.Lookups.{same_actor, pass_of}
use Rattle.store_core.specs.Step.{Places as CorePlaces}
use Rattle.store_core.specs.Tokens.{actor_of}
use Rattle.version_seal.specs.Entry.{BookOf}
use Rattle.chunk_server.specs.Core.{core_of}
use Rattle.stripe_stamps.specs.Sealed.{Sealed}
use Rattle.stripe_stamps.specs.Stamped.{HaveContents}
use Rattle.session_rules.specs.State.{Snapshot, State}
use Rattle.session_rules.specs.Snapshots.{most_objects, snap_drop}
use Rattle.session_rules.specs.declared.session_answer.Answer.{Answer}
use Rattle.session_rules.specs.declared.request.Request.{Request}
use Rattle.session_rules.proofs.Whole.{whole_of}
use Rattle.session_rules.specs.Between.{IsBetween}
use Rattle.session_rules.specs.Readers.{kept_numbers, tickets_of}
use Rattle.session_rules.specs.Serving.{AreSweptTo}
use Rattle.session_rules.specs.AloneSnapshots.{end_all}
use Rattle.session_rules.proofs.Ends.{same_swept}
use Rattle.session_rules.proofs.PassesEnded.{AreEnded, all_ended}
use Rattle.session_rules.proofs.SnapsDropped.{nobody, swept as sweep_made, drop_swept, dropped_between}
use Rattle.snapshot_view.specs.Releasing.{released_with, no_end, end_all as ends_of}
use Rattle.snapshot_view.specs.Snapshots.{KeptOf, SnapshotOf}
use Rattle.snapshot_view.specs.Tickets.{AgreesWithAll, AreOfSame, MayGet, OthersAgree}
use Rattle.session_store.specs.Inside.{store_of}
use Rattle.session_store.specs.Kept.{HasSeat, HoldTickets, IsStore}
use Rattle.session_store.specs.Places.{seen_in}
use Rattle.session_store.specs.Serving.{Serves, ServesAll, dropped_one}
use Rattle.session_store.specs.Standing.{AreKept, IsKeptAs, StandsAt, readers, seats_at}
use Rattle.session_store.specs.Stored.{StoreOf, places_of, places_in}
use Rattle.session_store.specs.Sweeping.{HasSwept}
use Rattle.session_store.specs.declared.session_parts.Parts.{Parts}
use Rattle.session_store.specs.declared.places.SessionPlaces.{SessionPlaces}
use Rattle.session_store.proofs.SnapTokens.{AreOf, IsBelow, ends_same, first_are_of, ends_below, below_of, held_below, free_all, none_of, still_all}

held_by : (d : Directory) (n : ℕ) (book : BookOf) (its : SnapshotOf) (tickets : Option (List ActorToken)) → HoldTickets d n book (Some its) tickets → HoldTickets d n book (Some its) None
held_by d n book its None hold = hold
held_by d n book its (Some tokens) hold = absurd hold

some_in : (its : SnapshotOf) (found : Option Snapshot) → AreKept found (Some its) → (kept : Snapshot) × (found ≡ Some kept) × IsKeptAs kept its
some_in its None h = absurd h
some_in its (Some kept) h = (kept, refl, h)

module _ (parts : Parts) (is : IsStore (store_of parts)) (its : SnapshotOf) (open_is : parts.snapshot ≡ Some its) (left : Sealed) (items : List ActorToken) (points : List Point)
    (ends : released_with left.core (take (length its.objects) items) points ≡ ends_of its.number (no_end parts.places.directory.core) (take (length its.objects) its.tokens))
    (rest : drop (length its.objects) items ≡ drop (length its.objects) its.tokens) (actors : AreOfSame its.tokens items) (agrees : AgreesWithAll left.core items) (others : OthersAgree its.tokens parts.places.directory.core left.core)
    (stamps : left.stamps ≡ parts.places.directory.stamps) (now : SessionPlaces) (swept : HasSwept (record (parts.places) { directory = left }) now) where
  abbrev d : Directory
  d = parts.places.directory.core

  abbrev old : StoreOf
  old = store_of parts

  abbrev g : Shape
  g = parts.places.book.geometry

  abbrev n : ℕ
  n = length its.objects

  abbrev pub dropped_now : StoreOf
  dropped_now = record {
    geometry = now.book.geometry;
    max = now.directory.core.max;
    served = parts.served;
    kept = record (old.kept) { book = now.book; directory = now.directory; servers = now.servers.items; snapshot = None; tickets = Some items };
  }

  hold : HoldTickets d parts.served parts.places.book (Some its) None
  hold = held_by d parts.served parts.places.book its old.kept.tickets (subst (λ s. HoldTickets d parts.served parts.places.book s old.kept.tickets) open_is is.tickets)

  items_of : AreOf readers items
  items_of = actors ∙ hold.0.actors

  -- ---- at a state
  module _ (s : State) (at : StandsAt old s) where
    open_here : (kept : Snapshot) × (s.snapshot ≡ Some kept) × IsKeptAs kept its
    open_here = some_in its s.snapshot (subst (AreKept s.snapshot) open_is at.snapshot)

    abbrev kept : Snapshot
    kept = open_here.0

    abbrev state : State
    state = record s { snapshot = None }

    as_many : length kept.numbers ≡ n
    as_many =
        sym (length-map kept.numbers (λ (object : List ℕ × List ℕ). object.0)) ∙ ap length (sym open_here.2.names) ∙ length-map its.objects (λ (object : KeptOf). object.name)

    ends_are : end_all parts.served (take (length kept.numbers) readers) (places_in old) ≡ places_of left old.kept.servers
    ends_are =
        ap (λ m. end_all parts.served (take m readers) (places_in old)) as_many
        ∙ ends_same its.number parts.served (take n its.tokens) (take n readers) (no_end d) (map core_of old.kept.servers) (first_are_of n its.tokens readers hold.0.actors)
        ∙ ap (λ (d : Directory). record { directory = d; servers = map core_of old.kept.servers }) (ap (λ r. r.directory) (sym ends))

    swept_same : (sweep_made at.calls g old.max 1 (seats_at parts.served) at.stands (places_in old) s is.wide at.between kept open_here.1).after ≡ seen_in now
    swept_same =
        same_swept g (end_all parts.served (take (length kept.numbers) readers) (places_in old)) (sweep_made at.calls g old.max 1 (seats_at parts.served) at.stands (places_in old) s is.wide at.between kept open_here.1).after (seen_in now)
        (drop_swept at.calls g old.max 1 (seats_at parts.served) at.stands (places_in old) s is.wide at.between kept open_here.1)
        (subst (λ (p : CorePlaces). AreSweptTo g p (seen_in now)) (sym ends_are) swept.swept)

    between_after : IsBetween at.calls g old.max (seats_at parts.served) at.stands (seen_in now) state
    between_after =
        subst (λ (p : CorePlaces). IsBetween at.calls g old.max (seats_at parts.served) at.stands p state) swept_same
        (dropped_between at.calls g old.max 1 (seats_at parts.served) at.stands (places_in old) s is.wide at.between kept open_here.1)

    -- ---- the stamps have the contents still
    used : at.between.snapshot.number < parts.served
    used = subst (λ snapshot. IfSome snapshot (λ kept. at.between.snapshot.number < parts.served)) open_here.1 at.between.snapshot.used

    held : AllByRecursion (Agrees d) (tickets_of at.stands at.between.snapshot.number parts.served readers kept.numbers)
    held = subst (λ snapshot. AllByRecursion (Agrees d) (tickets_of at.stands at.between.snapshot.number parts.served readers (kept_numbers snapshot))) open_here.1 at.between.snapshot.tickets

    distinct : IsDistinct nat_eq readers
    unfolding IsDistinct
    distinct = at.between.readers.once.1

    ended : AreEnded at.calls g old.max at.stands s at.between.snapshot.number parts.served readers (places_in old) (end_all parts.served (take (length kept.numbers) readers) (places_in old))
    ended =
        all_ended at.calls g old.max at.stands s is.wide at.between.snapshot.number parts.served used parts.served readers kept.numbers (places_in old) distinct at.between.seen
        (whole_of at.calls g old.max at.stands (places_in old) s at.between.seen at.between.its_map) held

    versions_left : left.core.versions ≡ d.versions
    versions_left = ap (λ (p : CorePlaces). p.directory.versions) (sym ends_are) ∙ ended.versions

    shape_left : left.core.shape ≡ d.shape
    shape_left = ap (λ (p : CorePlaces). p.directory.shape) (sym ends_are) ∙ ended.seen.shape ∙ sym at.between.seen.shape

    contents_left : HaveContents at.calls left
    contents_left =
        ap (map (λ stamp. stamp.content)) stamps ∙ at.contents ∙ ap (λ shape. contents_by shape at.calls d.versions) (sym shape_left) ∙ ap (contents_by left.core.shape at.calls) (sym versions_left)

    -- ---- the tickets are seats
    nobody_here : (who : Actor) → pass_of who now.directory.core ≡ None
    nobody_here = nobody at.stands now.directory.core between_after.snapshot.number parts.served readers between_after.snapshot.tickets between_after.snapshot.others

    rest_below : All (IsBelow parts.served) (drop n its.tokens)
    rest_below = All-weaker (MayGet parts.served) (IsBelow parts.served) (below_of parts.served parts.served (omega arith)) (drop n its.tokens) hold.1

    tokens_below : All (IsBelow parts.served) its.tokens
    tokens_below =
        held_below at.stands at.between.snapshot.number parts.served parts.served used d its.tokens readers kept.numbers hold.0.actors hold.0.agrees.each held
        (subst (λ m. All (IsBelow parts.served) (drop m its.tokens)) (sym as_many) rest_below)

    items_below : All (IsBelow parts.served) items
    items_below =
        subst (All (IsBelow parts.served)) (take-append-drop n items)
        (All-append (IsBelow parts.served) (take n items) (drop n items)
        (subst (λ r. All (IsBelow parts.served) r.tokens) (sym ends)
        (ends_below its.number parts.served (no_end d) (take n its.tokens) (All-nil (IsBelow parts.served)) (All-take (IsBelow parts.served) n its.tokens tokens_below)))
        (subst (All (IsBelow parts.served)) (sym rest) rest_below))

    book_same : now.book ≡ parts.places.book
    book_same = swept.keeps.same.book

    most_same : now.directory.core.max ≡ parts.places.directory.core.max
    most_same = between_after.seen.most

    stands_after : StandsAt dropped_now state
    stands_after = record {
      calls = at.calls;
      stands = at.stands;
      between =
          subst (λ (b : BookOf). IsBetween at.calls b.geometry now.directory.core.max (seats_at parts.served) at.stands (seen_in now) state) (sym book_same)
          (subst (λ m. IsBetween at.calls g m (seats_at parts.served) at.stands (seen_in now) state) (sym most_same) between_after);
      contents = swept.keeps.contents at.calls contents_left;
      fresh = at.fresh;
      next = at.next;
      epochs = at.epochs;
      snapshot = tt;
    }

    drop_is : snap_drop s.snapshot s ≡ (state, Answer.Replied reply.Done)
    drop_is = ap (λ kept. snap_drop kept s) open_here.1

    serves_drop : Serves Request.SnapDrop s (Answer.Replied reply.Done) dropped_now
    serves_drop = record { after = state; served = inl (sym drop_is); stands = stands_after }

  pub drop_serves : ServesAll Request.SnapDrop old (Answer.Replied reply.Done) dropped_now
  drop_serves s at = serves_drop s at

  pub drop_same : dropped_now ≡ dropped_one old dropped_now
  drop_same = λ i. record { geometry = ap (λ (b : BookOf). b.geometry) (book_same is.state is.stands) i; max = most_same is.state is.stands i; served = parts.served; kept = dropped_now.kept }

  still : (token : ActorToken) → same_actor actor.Sweeper (actor_of token) ≡ false → Agrees left.core token → Agrees now.directory.core token
  still token apart its = swept.keeps.agrees token apart its

  pub drop_kept : IsStore dropped_now
  drop_kept = record {
    code = subst (λ (b : BookOf). IsGeometry b.geometry) (sym (book_same is.state is.stands)) is.code;
    wide = subst (λ (b : BookOf). 0 < stripe_length b.geometry) (sym (book_same is.state is.stands)) is.wide;
    free = (refl, swept.keeps.same.places.free);
    book = swept.keeps.same.places.book;
    most = refl;
    small = subst (λ m. m < 2 ^ 32) (sym (most_same is.state is.stands)) is.small;
    servers = swept.keeps.same.places.servers;
    client = seat_still (actor.Client 0) parts.served parts.client (λ i positive. ne_eqb i 0 (λ same. omega (arith, positive, same))) refl is.client;
    repairer = seat_still (actor.Repairer 0) parts.served parts.repairer (λ i positive. refl) refl is.repairer;
    healer = seat_still (actor.Repairer 1) parts.next parts.healer (λ i positive. refl) refl is.healer;
    tickets = (record { actors = items_of; agrees = record { each = items_agree; apart = agrees.apart } }, free_all now.directory.core parts.served (nobody_here is.state is.stands) items readers items_of items_agree (items_below is.state is.stands));
    state = state is.state is.stands;
    stands = stands_after is.state is.stands;
  }
    where
      items_agree : All (Agrees now.directory.core) items
      items_agree = still_all left.core now.directory.core still items readers items_of agrees.each

      seat_still : (who : Actor) (m : ℕ) (place : Option Seat) → ((i : ℕ) → 0 < i → same_actor (actor.Client i) who ≡ false) → same_actor actor.Sweeper who ≡ false → HasSeat d who m place → HasSeat now.directory.core who m place
      seat_still who m place apart unswept has = record {
        seat = has.seat;
        there = has.there;
        actor = has.actor;
        unused = has.unused;
        agrees =
            still (ActorToken.Seated has.seat) (ap (same_actor actor.Sweeper) has.actor ∙ unswept)
            (others (ActorToken.Seated has.seat)
            (subst (All (λ other. same_actor other (has.seat.actor) ≡ false)) (sym hold.0.actors)
            (none_of has.seat.actor (λ i positive. ap (same_actor (actor.Client i)) has.actor ∙ apart i positive) 1 most_objects (omega arith)))
            has.agrees);
      }
