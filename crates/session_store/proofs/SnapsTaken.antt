-- A snapshot is taken, or none is.
use Rattle.std.proofs.Common.{◌≡◌, ◌⊎◌, ℕ, ◌+◌, ◌-◌, ◌^◌, ◌<◌, ◌≤◌, min, false, nat_lt, List, [], ◌++◌, length, map, take, drop, slice_get, Option, None, Some, option_map, All, refl, sym, ap, subst, ◌∙◌, arith, inl, inr, if◌then◌else◌}
use Rattle.std.specs.Prelude.{⊤}
use Rattle.std.specs.List.{AllByRecursion}
use Rattle.std.proofs.lemmas.Bool.{le-ltb, lt-ltb, ne_eqb, or_left}
use Rattle.std.proofs.lemmas.List.{length-map, length-take, length-take-le, take_all}
use Rattle.std.proofs.lemmas.List.Elements.{All-nil, All-append, All-drop, All-take, All-weaker}
use Rattle.std.proofs.lemmas.List.FromFn.{length-range_with_len}
use Rattle.std.proofs.lemmas.Simd.{map-map}
use Rattle.clay_grid.specs.Shape.{stripe_length}
use Rattle.store_map.specs.Laws.{names_of}
use Rattle.store_map.specs.declared.actor.Actor.{Actor}
use Rattle.store_map.specs.declared.actor.Actor.TheVariants as actor
use Rattle.store_map.specs.declared.call.Call.{Call}
use Rattle.store_map.specs.declared.call.Call.TheVariants as call
use Rattle.store_map.specs.declared.reply.Reply.TheVariants as reply
use Rattle.store_core.specs.Agreement.{Seat, ActorToken, Agrees}
use Rattle.store_core.specs.Calls.{Calls}
use Rattle.store_core.specs.Directory.{Object, Directory}
use Rattle.store_core.specs.Lists.{is_among}
use Rattle.store_core.specs.Lookups.{same_actor, pass_of}
use Rattle.store_core.specs.Server.{Server}
use Rattle.store_core.specs.Step.{Places}
use Rattle.store_core.specs.Tokens.{actor_of}
use Rattle.chunk_server.specs.Core.{core_of}
use Rattle.stripe_stamps.specs.Sealed.{Sealed}
use Rattle.stripe_stamps.specs.Stamped.{HaveContents}
use Rattle.session_rules.specs.State.{Snapshot, State}
use Rattle.session_rules.specs.Snapshots.{most_objects, snap}
use Rattle.session_rules.specs.declared.session_answer.Answer.{Answer}
use Rattle.session_rules.specs.declared.request.Request.{Request}
use Rattle.session_rules.specs.Seen.{all_numbers}
use Rattle.session_rules.proofs.Counting.{among_append}
use Rattle.session_rules.specs.AnsweredRuns.{IsSnapCut}
use Rattle.session_rules.specs.Between.{seats_after, IsBetween}
use Rattle.session_rules.specs.Readers.{kept_numbers, tickets_of}
use Rattle.session_rules.specs.Serving.{AreLooks}
use Rattle.session_rules.specs.AloneSnapshots.{look_all, end_all}
use Rattle.session_rules.proofs.LooksMade.{all_in_directory}
use Rattle.session_rules.proofs.SnapsCut.{snap_cut}
use Rattle.session_rules.proofs.SnapsDropped.{nobody}
use Rattle.session_rules.proofs.SnapsServed.{lengths_named, taken_between, names_same, snap_is}
use Rattle.snapshot_view.specs.LookSteps.{Looked, no_look, versions_kept, look_all as looks_of}
use Rattle.snapshot_view.specs.Refused.{AreTooMany, IsGivenUp, IsRefused}
use Rattle.snapshot_view.specs.Releasing.{no_end, end_all as ends_of}
use Rattle.snapshot_view.specs.Snapshots.{KeptOf, SnapshotOf, StandsFor}
use Rattle.snapshot_view.specs.Taking.{IsTaken}
use Rattle.snapshot_view.specs.Tickets.{AgreesWithAll, AreOfSame, MayGet, OthersAgree, pins_of}
use Rattle.snapshot_view.specs.declared.snapshot_fault.SnapFault.{SnapFault}
use Rattle.snapshot_view.specs.declared.snapshot_fault.SnapFault.TheVariants as fault
use Rattle.snapshot_view.specs.declared.snapshot_fault.SnapRefused.{SnapRefused}
use Rattle.session_store.specs.Kept.{HasSeat, HoldTickets, IsStore, ServesRequest}
use Rattle.session_store.specs.Serving.{Serves}
use Rattle.session_store.specs.Standing.{AreKept, IsKeptAs, StandsAt, readers, seats_at}
use Rattle.session_store.specs.Stored.{StoreOf, places_of, places_in}
use Rattle.session_store.proofs.Knowing.{between_more, contents_more}
use Rattle.session_store.proofs.Numbers.{known_by, known_now, known_fresh, passed_over}
use Rattle.session_store.proofs.Scrubbing.{left_served}
use Rattle.session_store.proofs.SnapPlaces.{all_placed}
use Rattle.session_store.proofs.SnapTokens.{AreOf, IsBelow, looks_same, ends_same, first_are_of, looks_of_same, looks_known, looks_below, ends_below, below_of, free_all, none_of}
use Rattle.session_store.proofs.Standing.{later_epochs}

none_in : (kept : Option Snapshot) (held : Option SnapshotOf) → held ≡ None → AreKept kept held → kept ≡ None
none_in None held e h = refl
none_in (Some kept) held e h = absurd (subst (AreKept (Some kept)) e h)

-- the client that makes the calls is no reader
client_apart : (i : ℕ) → 0 < i → same_actor (actor.Client i) (actor.Client 0) ≡ false
client_apart i positive = ne_eqb i 0 (λ same. omega (arith, positive, same))

-- ---- a store without a snapshot
module _ (old : StoreOf) (is : IsStore old) (none : old.kept.snapshot ≡ None) (tokens : List ActorToken) (tokens_are : old.kept.tickets ≡ Some tokens) where
  abbrev d : Directory
  d = old.kept.directory.core

  abbrev servers : List Server
  servers = map core_of old.kept.servers

  hold : HoldTickets d old.served old.kept.book None (Some tokens)
  hold = subst (λ t. HoldTickets d old.served old.kept.book None t) tokens_are (subst (λ s. HoldTickets d old.served old.kept.book s old.kept.tickets) none is.tickets)

  count : length tokens ≡ most_objects
  count =
      sym (length-map tokens actor_of) ∙ ap length hold.0.actors ∙ length-map readers (λ reader. actor.Client reader) ∙ length-range_with_len 1 most_objects

  -- a seat of another actor, where the readers' steps leave the others
  other_seat : (who : Actor) (n m : ℕ) → n ≤ m → ((i : ℕ) → 0 < i → same_actor (actor.Client i) who ≡ false) → (after : Directory) → OthersAgree tokens d after → (place : Option Seat) → HasSeat d who n place → HasSeat after who m place
  other_seat who n m less apart after others place has = record {
    seat = has.seat;
    there = has.there;
    actor = has.actor;
    unused = (let low = has.unused in omega (arith, less, low));
    agrees =
        others (ActorToken.Seated has.seat)
        (subst (All (λ other. same_actor other (has.seat.actor) ≡ false)) (sym hold.0.actors)
        (none_of has.seat.actor (λ i positive. ap (same_actor (actor.Client i)) has.actor ∙ apart i positive) 1 most_objects (omega arith)))
        has.agrees;
  }

  -- ---- at a state
  module _ (s : State) (at : StandsAt old s) where
    none_here : s.snapshot ≡ None
    none_here = none_in s.snapshot old.kept.snapshot none at.snapshot

    abbrev names : List (List ℕ)
    names = names_of s.objects

    -- the readers' looks
    abbrev found : ℕ → Option Call
    found i = option_map (λ name. call.Get name) (slice_get names (i - 1))

    abbrev calls : Calls
    calls = known_by at.calls old.served found

    between : IsBetween calls old.geometry old.max (seats_at old.served) at.stands (places_in old) s
    between = between_more old found s at

    known : AreLooks calls old.served readers names
    known =
        looks_known calls old.served 1 most_objects names
        (λ j. let place : 1 + j - 1 ≡ j = omega arith in known_now at.calls old.served found (1 + j) ∙ ap (λ i. option_map (λ name. call.Get name) (slice_get names i)) place)

    object_names : map (λ (object : Object). object.name) d.objects ≡ names
    object_names =
        sym (map-map (λ (pair : List ℕ × ℕ). pair.0) (λ (object : Object). let pair : List ℕ × ℕ = (object.name, object.length) in pair) d.objects)
        ∙ ap (map (λ (pair : List ℕ × ℕ). pair.0)) at.between.seen.lengths
        ∙ map-map (λ (pair : List ℕ × ℕ). pair.0) (λ (object : List ℕ × List ℕ). let pair : List ℕ × ℕ = (object.0, length object.1) in pair) s.objects

    as_many_objects : length s.objects ≡ length d.objects
    as_many_objects =
        sym (length-map s.objects (λ (object : List ℕ × List ℕ). object.0)) ∙ ap length (sym object_names) ∙ length-map d.objects (λ (object : Object). object.name)

    few_objects : length d.objects ≤ length tokens → nat_lt most_objects (length s.objects) ≡ false
    few_objects less = le-ltb most_objects (length s.objects) (let many : length s.objects ≡ length d.objects = as_many_objects in let all : length tokens ≡ 64 = count in omega (arith, many, all, less))

  -- ---- one is taken
  module _ (after : Sealed) (its : SnapshotOf) (taken : IsTaken old.served tokens old.kept.directory after its) (others : OthersAgree tokens d after.core) where
    abbrev now : StoreOf
    now = record { geometry = old.geometry; max = after.core.max; served = old.served + 1; kept = record (old.kept) { directory = after; snapshot = Some its; tickets = None } }

    abbrev n : ℕ
    n = length its.objects

    most_same : after.core.max ≡ old.max
    most_same = ap (λ (x : Sealed). x.core.max) taken.looked.same ∙ is.most

    -- there are tickets enough
    enough : length d.objects ≤ length tokens
    enough =
        let passes : length (take n its.tokens) ≡ n =
        sym (length-map (take n its.tokens) pins_of) ∙ ap length taken.looked.pins ∙ length-map its.objects versions_kept in
        let cut : length (take n its.tokens) ≡ min n (length its.tokens) = length-take n its.tokens in
        let same : length its.tokens ≡ length tokens =
        sym (length-map its.tokens actor_of) ∙ ap length taken.looked.actors ∙ length-map tokens actor_of in
        let all : n ≡ length d.objects = taken.all in
        omega (arith, passes, cut, same, all)

    module _ (s : State) (at : StandsAt old s) where
      small : nat_lt most_objects (length s.objects) ≡ false
      small = few_objects s at enough

      abbrev kept : Snapshot
      kept = record { objects = s.objects; numbers = s.numbers; stripes = s.stripes }

      abbrev state : State
      state = record s { snapshot = Some kept }

      all_names : take n (map (λ (object : Object). object.name) d.objects) ≡ names_of s.objects
      all_names =
          take_all n (map (λ (object : Object). object.name) d.objects)
          (let many : length (map (λ (object : Object). object.name) d.objects) ≡ length d.objects = length-map d.objects (λ (object : Object). object.name) in let all : n ≡ length d.objects = taken.all in omega (arith, many, all))
          ∙ object_names s at

      many_names : length (names_of s.objects) ≡ n
      many_names = ap length (sym (object_names s at)) ∙ length-map d.objects (λ (object : Object). object.name) ∙ sym taken.all

      looks_are : look_all old.served readers (names_of s.objects) (places_in old) ≡ places_of after old.kept.servers
      looks_are =
          looks_same old.served tokens readers (names_of s.objects) d [] servers hold.0.actors
          ∙ ap (λ m. record { directory = (looks_of old.served (no_look d) (take m tokens) (names_of s.objects)).directory; servers = servers }) many_names
          ∙ ap (λ names. record { directory = (looks_of old.served (no_look d) (take n tokens) names).directory; servers = servers }) (sym all_names)
          ∙ ap (λ (l : Looked). record { directory = l.directory; servers = servers }) (sym taken.looked.looks)

      between_after : IsBetween (calls s at) old.geometry old.max (seats_at (old.served + 1)) at.stands (places_of after old.kept.servers) state
      between_after =
          passed_over (calls s at) old.geometry old.max (seats_after Request.Snap (seats_at old.served)) (old.served + 1) (old.served + 1) (old.served + 1) at.stands (places_of after old.kept.servers) state (omega arith) (omega arith) (omega arith)
          (subst (λ (p : Places). IsBetween (calls s at) old.geometry old.max (seats_after Request.Snap (seats_at old.served)) at.stands p state)
          (names_same (calls s at) old.geometry old.max 1 (seats_at old.served) at.stands (places_in old) s is.wide (between s at) (none_here s at) small (known s at) ∙ looks_are)
          (taken_between (calls s at) old.geometry old.max 1 (seats_at old.served) at.stands (places_in old) s is.wide (between s at) (none_here s at) small (known s at)))

      contents_after : HaveContents (calls s at) after
      contents_after = subst (HaveContents (calls s at)) (sym taken.looked.same) (contents_more old (found s at) s at)

      kept_names : map (λ (object : KeptOf). object.name) its.objects ≡ names_of s.numbers
      kept_names = taken.looked.names ∙ all_names ∙ lengths_named old.geometry old.max at.stands (places_in old) s at.between.seen

      is_kept : IsKeptAs kept its
      is_kept = record {
        names = kept_names;
        placed =
            all_placed old.geometry old.max at.stands (places_in old) s at.between.seen old.kept.directory refl (subst (λ g. 0 < stripe_length g) (sym at.between.seen.shape) is.wide) kept refl its.objects s.numbers kept_names taken.looked.found
            (all_in_directory old.geometry old.max at.stands (places_in old) s at.between.seen)
            (λ m e. among_append m (all_numbers s.numbers) _ ∙ or_left (is_among m (all_numbers s.numbers)) _ e);
        pins = taken.looked.pins;
        bytes =
            subst (λ objects. StandsFor its objects) (sym at.between.its_map.objects) (taken.stands at.calls at.between.its_map.bytes at.contents);
      }

      stands_after : StandsAt now state
      stands_after = record {
        calls = calls s at;
        stands = at.stands;
        between = subst (λ m. IsBetween (calls s at) old.geometry m (seats_at (old.served + 1)) at.stands (places_of after old.kept.servers) state) (sym most_same) between_after;
        contents = contents_after;
        fresh = known_fresh at.calls old.served (found s at) at.fresh;
        next = at.next;
        epochs = later_epochs s.epochs s.epochs old.served refl at.epochs;
        snapshot = is_kept;
      }

      serves_taken : Serves Request.Snap s (Answer.Replied reply.Done) now
      serves_taken = record {
        after = state;
        served =
            inl (sym (snap_is (calls s at) old.geometry after.core.max 1 (seats_at old.served) at.stands (places_in old) s is.wide
            (subst (λ m. IsBetween (calls s at) old.geometry m (seats_at old.served) at.stands (places_in old) s) (sym most_same) (between s at)) (none_here s at) small));
        stands = stands_after;
      }

    pub snap_is_taken : ServesRequest Request.Snap old (Answer.Replied reply.Done) now
    snap_is_taken = record {
      serves = serves_taken;
      same = ap (λ m. record { geometry = old.geometry; max = m; served = old.served + 1; kept = now.kept }) most_same;
      kept = record {
        code = is.code;
        wide = is.wide;
        free = is.free;
        book = ap (λ (x : Sealed). x.book) taken.looked.same ∙ is.book;
        most = refl;
        small = subst (λ m. m < 2 ^ 32) (sym most_same) is.small;
        servers = is.servers;
        client = other_seat (actor.Client 0) old.served (old.served + 1) (omega arith) client_apart after.core others old.kept.client is.client;
        repairer = other_seat (actor.Repairer 0) old.served (old.served + 1) (omega arith) (λ i positive. refl) after.core others old.kept.repairer is.repairer;
        healer = other_seat (actor.Repairer 1) old.kept.next old.kept.next (omega arith) (λ i positive. refl) after.core others old.kept.healer is.healer;
        tickets = (
          record { actors = taken.looked.actors ∙ hold.0.actors; agrees = taken.looked.agrees },
          subst (All (MayGet (old.served + 1))) (sym taken.looked.rest)
              (All-drop (MayGet (old.served + 1)) n tokens may_later),
          taken.book ∙ is.book,
          (let same : its.number ≡ old.served = taken.its_number in omega (arith, same)),
        );
        state = state is.state is.stands;
        stands = stands_after is.state is.stands;
      };
    }
      where
        one_later : (token : ActorToken) → MayGet old.served token → MayGet (old.served + 1) token
        one_later (ActorToken.Seated seat) (low, client) = (omega (arith, low), client)
        one_later (ActorToken.InCall held) may = absurd may

        may_later : All (MayGet (old.served + 1)) tokens
        may_later = All-weaker (MayGet old.served) (MayGet (old.served + 1)) one_later tokens hold.1

  -- ---- none is taken
  abbrev pub refused_now : Sealed → List ActorToken → StoreOf
  refused_now after items = record { geometry = old.geometry; max = after.core.max; served = old.served + 1; kept = record (old.kept) { directory = after; snapshot = None; tickets = Some items } }

  -- there are too many objects
  module _ (after : Sealed) (refused : SnapRefused) (many : AreTooMany tokens old.kept.directory after refused) (objects : ℕ) (why : refused.why ≡ fault.TooMany objects) where
    objects_are : objects ≡ length d.objects
    objects_are = ap how_many (sym why ∙ many.why)
      where
        how_many : SnapFault → ℕ
        how_many (fault.TooMany objects) = objects
        how_many fault.OutOfMemory = 0

    is_snap : (s : State) → StandsAt old s → snap s.snapshot s ≡ (s, Answer.TooMany objects)
    is_snap s at =
        ap (λ kept. snap kept s) (none_here s at)
        ∙ ap (λ b. let r : State × Answer = if b then (s, Answer.TooMany (length s.objects)) else (record s { snapshot = Some (record { objects = s.objects; numbers = s.numbers; stripes = s.stripes }) }, Answer.Replied reply.Done) in r)
        (lt-ltb most_objects (length s.objects) (let all : length s.objects ≡ length d.objects = as_many_objects s at in let more : length tokens < length d.objects = many.more in let few : length tokens ≡ 64 = count in omega (arith, all, more, few)))
        ∙ ap (λ n. let r : State × Answer = (s, Answer.TooMany n) in r) (as_many_objects s at ∙ sym objects_are)

    pub too_many_served : ServesRequest Request.Snap old (Answer.TooMany objects) (refused_now after refused.tickets.items)
    too_many_served =
        subst (ServesRequest Request.Snap old (Answer.TooMany objects))
        (λ i. record { geometry = old.geometry; max = max_is i; served = old.served + 1; kept = record (old.kept) { directory = sym many.directory i; snapshot = none i; tickets = (tokens_are ∙ ap (λ (l : List ActorToken). Some l) (sym many.tickets)) i } })
        (left_served old is Request.Snap (Answer.TooMany objects) (λ s at. inl (sym (is_snap s at))))
      where
        max_is : old.max ≡ after.core.max
        max_is = sym is.most ∙ ap (λ (x : Sealed). x.core.max) (sym many.directory)

  -- memory was wanting
  module _ (after : Sealed) (refused : SnapRefused) (up : IsGivenUp old.served tokens old.kept.directory after refused) (actors : AreOfSame tokens refused.tickets.items) (agrees : AgreesWithAll after.core refused.tickets.items) (others : OthersAgree tokens d after.core) where
    abbrev given_now : StoreOf
    given_now = refused_now after refused.tickets.items

    most_given : after.core.max ≡ old.max
    most_given = ap (λ (x : Sealed). x.core.max) up.same ∙ is.most

    module _ (s : State) (at : StandsAt old s) where
      some_are : take up.made (map (λ (object : Object). object.name) d.objects) ≡ take up.made (names_of s.objects)
      some_are = ap (take up.made) (object_names s at)

      made_names : length (take up.made (names_of s.objects)) ≡ up.made
      made_names =
          length-take-le up.made (names_of s.objects)
          (let all : length (names_of s.objects) ≡ length d.objects = ap length (sym (object_names s at)) ∙ length-map d.objects (λ (object : Object). object.name) in let some : up.made ≤ length d.objects = up.some in omega (arith, all, some))

      looks_are_some : look_all old.served readers (take up.made (names_of s.objects)) (places_in old) ≡ record { directory = up.looked.directory; servers = servers }
      looks_are_some =
          looks_same old.served tokens readers (take up.made (names_of s.objects)) d [] servers hold.0.actors
          ∙ ap (λ m. record { directory = (looks_of old.served (no_look d) (take m tokens) (take up.made (names_of s.objects))).directory; servers = servers }) made_names
          ∙ ap (λ names. record { directory = (looks_of old.served (no_look d) (take up.made tokens) names).directory; servers = servers }) (sym some_are)
          ∙ ap (λ (l : Looked). record { directory = l.directory; servers = servers }) (sym up.looks)

      made_tokens : length (take up.made tokens) ≡ up.made
      made_tokens = length-take-le up.made tokens (let some : up.made ≤ length d.objects = up.some in let enough : length d.objects ≤ length tokens = up.enough in omega (arith, some, enough))

      looked_of : AreOf (take up.made readers) up.looked.tokens
      looked_of =
          ap (λ (l : Looked). map actor_of l.tokens) up.looks
          ∙ looks_of_same old.served (no_look d) (take up.made tokens) (take up.made (map (λ (object : Object). object.name) d.objects)) (made_tokens ∙ sym made_names ∙ ap length (sym some_are))
          ∙ first_are_of up.made tokens readers hold.0.actors

      ends_are : end_all old.served (take (length (take up.made (names_of s.objects))) readers) (look_all old.served readers (take up.made (names_of s.objects)) (places_in old)) ≡ places_of after old.kept.servers
      ends_are =
          ap (λ m. end_all old.served (take m readers) (look_all old.served readers (take up.made (names_of s.objects)) (places_in old))) made_names
          ∙ ap (end_all old.served (take up.made readers)) looks_are_some
          ∙ ends_same old.served old.served up.looked.tokens (take up.made readers) (no_end up.looked.directory) servers looked_of
          ∙ ap (λ (d : Directory). record { directory = d; servers = servers }) (ap (λ r. r.directory) (sym up.ends) ∙ sym up.directory)

      small_given : nat_lt most_objects (length s.objects) ≡ false
      small_given = few_objects s at up.enough

      cut : IsSnapCut (seats_at old.served) s (snap s.snapshot s).1 (places_in old) (places_of after old.kept.servers)
      cut =
          subst (λ (answered : State × Answer). IsSnapCut (seats_at old.served) s answered.1 (places_in old) (places_of after old.kept.servers))
          (sym (snap_is (calls s at) old.geometry old.max 1 (seats_at old.served) at.stands (places_in old) s is.wide (between s at) (none_here s at) small_given)) (up.made, sym ends_are)

      between_given : IsBetween (calls s at) old.geometry old.max (seats_at (old.served + 1)) at.stands (places_of after old.kept.servers) s
      between_given =
          passed_over (calls s at) old.geometry old.max (seats_after Request.Snap (seats_at old.served)) (old.served + 1) (old.served + 1) (old.served + 1) at.stands (places_of after old.kept.servers) s (omega arith) (omega arith) (omega arith)
          (snap_cut (calls s at) old.geometry old.max 1 (seats_at old.served) at.stands (places_in old) s is.wide (between s at) (λ e. known s at) (places_of after old.kept.servers) cut)

      stands_given : StandsAt given_now s
      stands_given = record {
        calls = calls s at;
        stands = at.stands;
        between = subst (λ m. IsBetween (calls s at) old.geometry m (seats_at (old.served + 1)) at.stands (places_of after old.kept.servers) s) (sym most_given) between_given;
        contents = subst (HaveContents (calls s at)) (sym up.same) (contents_more old (found s at) s at);
        fresh = known_fresh at.calls old.served (found s at) at.fresh;
        next = at.next;
        epochs = later_epochs s.epochs s.epochs old.served refl at.epochs;
        snapshot = subst (AreKept s.snapshot) none at.snapshot;
      }

      -- nobody has a pass
      nobody_here : (who : Actor) → pass_of who after.core ≡ None
      nobody_here =
          nobody at.stands after.core between_given.snapshot.number (old.served + 1) readers
          (subst (λ kept. AllByRecursion (Agrees after.core) (tickets_of at.stands between_given.snapshot.number (old.served + 1) readers (kept_numbers kept))) (none_here s at) between_given.snapshot.tickets)
          between_given.snapshot.others

    items_of : AreOf readers refused.tickets.items
    items_of = actors ∙ hold.0.actors

    all_below : All (IsBelow (old.served + 1)) tokens
    all_below = All-weaker (MayGet old.served) (IsBelow (old.served + 1)) (below_of old.served (old.served + 1) (omega arith)) tokens hold.1

    items_below : All (IsBelow (old.served + 1)) refused.tickets.items
    items_below =
        subst (All (IsBelow (old.served + 1))) (sym (up.tickets ∙ ap (λ r. r.tokens ++ drop up.made tokens) up.ends))
        (All-append (IsBelow (old.served + 1)) (ends_of old.served (no_end up.looked.directory) up.looked.tokens).tokens (drop up.made tokens)
        (ends_below old.served (old.served + 1) (no_end up.looked.directory) up.looked.tokens (All-nil (IsBelow (old.served + 1)))
        (subst (λ (l : Looked). All (IsBelow (old.served + 1)) l.tokens) (sym up.looks)
        (looks_below old.served (old.served + 1) (omega arith) (no_look d) (take up.made tokens) (take up.made (map (λ (object : Object). object.name) d.objects)) (All-nil (IsBelow (old.served + 1)))
        (All-take (IsBelow (old.served + 1)) up.made tokens all_below))))
        (All-drop (IsBelow (old.served + 1)) up.made tokens all_below))

    pub given_up_served : ServesRequest Request.Snap old Answer.NoMemory (refused_now after refused.tickets.items)
    given_up_served = record {
      serves = λ s at. record { after = s; served = inr (refl, refl); stands = stands_given s at };
      same = ap (λ m. record { geometry = old.geometry; max = m; served = old.served + 1; kept = given_now.kept }) most_given;
      kept = record {
        code = is.code;
        wide = is.wide;
        free = is.free;
        book = ap (λ (x : Sealed). x.book) up.same ∙ is.book;
        most = refl;
        small = subst (λ m. m < 2 ^ 32) (sym most_given) is.small;
        servers = is.servers;
        client = other_seat (actor.Client 0) old.served (old.served + 1) (omega arith) client_apart after.core others old.kept.client is.client;
        repairer = other_seat (actor.Repairer 0) old.served (old.served + 1) (omega arith) (λ i positive. refl) after.core others old.kept.repairer is.repairer;
        healer = other_seat (actor.Repairer 1) old.kept.next old.kept.next (omega arith) (λ i positive. refl) after.core others old.kept.healer is.healer;
        tickets = (record { actors = items_of; agrees = agrees }, free_all after.core (old.served + 1) (nobody_here is.state is.stands) refused.tickets.items readers items_of agrees.each items_below);
        state = is.state;
        stands = stands_given is.state is.stands;
      };
    }

  -- which of both it was, by its reason
  module _ (after : Sealed) (refused : SnapRefused) (its : IsRefused old.served tokens old.kept.directory after refused) (others : OthersAgree tokens d after.core) where
    abbrev IsOfMany : SnapFault → Type 0
    IsOfMany (fault.TooMany objects) = ⊤
    IsOfMany fault.OutOfMemory = ⊥

    pub many_refused : (objects : ℕ) → refused.why ≡ fault.TooMany objects → ServesRequest Request.Snap old (Answer.TooMany objects) (refused_now after refused.tickets.items)
    many_refused objects why = by its.case
      where
        by : AreTooMany tokens old.kept.directory after refused ⊎ IsGivenUp old.served tokens old.kept.directory after refused → ServesRequest Request.Snap old (Answer.TooMany objects) (refused_now after refused.tickets.items)
        by (inl many) = too_many_served after refused many objects why
        by (inr up) = absurd (subst IsOfMany (sym why ∙ up.why) tt)

    pub wanting_refused : refused.why ≡ fault.OutOfMemory → ServesRequest Request.Snap old Answer.NoMemory (refused_now after refused.tickets.items)
    wanting_refused why = by its.case
      where
        by : AreTooMany tokens old.kept.directory after refused ⊎ IsGivenUp old.served tokens old.kept.directory after refused → ServesRequest Request.Snap old Answer.NoMemory (refused_now after refused.tickets.items)
        by (inl many) = absurd (subst IsOfMany (sym many.why ∙ why) tt)
        by (inr up) = given_up_served after refused up its.actors its.agrees others
