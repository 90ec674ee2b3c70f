-- A snapshot that is taken, and one that is dropped: each leads from places between two requests to such places.
use Rattle.std.proofs.Common.{◌≡◌, ◌⊎◌, ℕ, ◌+◌, ◌<◌, ◌≤◌, nat_eq, nat_lt, Bool, true, false, not, ◌&&◌, ◌||◌, cond, List, [], ◌∷◌, length, map, get_or, find, Option, None, Some, option_map, All, IfSome, IsTrue, refl, sym, ap, subst, subst₂, ◌∙◌, inl, inr, arith, if◌then◌else◌}
use Rattle.std.specs.List.{AllByRecursion, IsDistinct, enumerate_from}
use Rattle.std.proofs.lemmas.Bool.{true≢false, or_cases, or_left, or_right, ltb-false, eq-eqb, eqb-true}
use Rattle.std.proofs.lemmas.Option.{none-some}
use Rattle.std.proofs.lemmas.List.{length-map, map-append}
use Rattle.std.proofs.lemmas.List.Elements.{All-weaker}
use Rattle.std.proofs.lemmas.Simd.{map-map}
use Rattle.clay_grid.specs.Shape.{Shape, stripe_length}
use Rattle.store_map.specs.Laws.{names_of}
use Rattle.store_map.specs.declared.actor.Actor.{Actor}
use Rattle.store_map.specs.declared.actor.Actor.TheVariants as actor
use Rattle.store_map.specs.declared.reply.Reply.TheVariants as reply
use Rattle.store_core.specs.Lists.{is_among}
use Rattle.store_core.specs.Directory.{Object, Version, Pin, Directory}
use Rattle.store_core.specs.Lookups.{pass_of, is_pinned, is_superseded_standing, first_garbage}
use Rattle.store_core.specs.Agreement.{ActorToken, AreBelow, Agrees}
use Rattle.store_core.specs.Calls.{Calls}
use Rattle.store_core.specs.Content.{contents_by}
use Rattle.store_core.specs.Server.{Server}
use Rattle.store_core.specs.Step.{Places}
use Rattle.run_laws.specs.MapAfter.{map_by}
use Rattle.run_laws.specs.Contents.{stripes_in, stored_in}
use Rattle.session_rules.specs.State.{Numbering, Snapshot, State}
use Rattle.session_rules.specs.declared.session_answer.Answer.{Answer}
use Rattle.session_rules.specs.declared.request.Request.{Request}
use Rattle.session_rules.specs.Snapshots.{most_objects, snap}
use Rattle.session_rules.specs.Seen.{version_of, versions_under, stood_under, all_numbers, snapshot_numbers, live_numbers, IsSeenAs, IsOfSnapshot, IsAtRest, IsQuiet}
use Rattle.session_rules.proofs.AtPlaces.{map_same}
use Rattle.session_rules.proofs.Counting.{among_append}
use Rattle.session_rules.proofs.Garbage.{is_free}
use Rattle.session_rules.proofs.Names.{is_none_by}
use Rattle.session_rules.proofs.Snaps.{snaps_are_seen}
use Rattle.session_rules.proofs.Whole.{Whole, whole_of, same_of, map_of}
use Rattle.session_rules.specs.Seats.{MayBeginFrom}
use Rattle.session_rules.specs.Readers.{is_reader, kept_numbers, tickets_of, contents_under}
use Rattle.session_rules.specs.Between.{Seats, seats_after, IsBetween}
use Rattle.session_rules.specs.AloneSnapshots.{look_all}
use Rattle.session_rules.specs.Serving.{IsSnapServed, AreLooks, MayBeAsked, IsServedAlone}
use Rattle.session_rules.proofs.LooksMade.{InDirectory, AreLooked, all_in_directory, seat_raised, all_made}
use Rattle.session_rules.proofs.Readers.{client_apart, unused_of}

cases : {P : Type 0} (b : Bool) → (b ≡ true → P) → (b ≡ false → P) → P
cases true t f = t refl
cases false t f = f refl

options : {X P : Type 0} (found : Option X) → (found ≡ None → P) → ((x : X) → found ≡ Some x → P) → P
options None none some = none refl
options (Some x) none some = some x refl

-- ---- the names in three lists are the same
pub lengths_named : (g : Shape) (max : ℕ) (stands : List ℕ) (p : Places) (s : State) → IsSeenAs g max stands p s → names_of s.objects ≡ names_of s.numbers
lengths_named g max stands p s h =
    sym (map-map (λ (pair : List ℕ × ℕ). pair.0) (λ (object : List ℕ × List ℕ). let pair : List ℕ × ℕ = (object.0, length object.1) in pair) s.objects)
    ∙ ap (map (λ (pair : List ℕ × ℕ). pair.0)) (sym h.lengths)
    ∙ map-map (λ (pair : List ℕ × ℕ). pair.0) (λ (object : Object). let pair : List ℕ × ℕ = (object.name, object.length) in pair) p.directory.objects
    ∙ sym (map-map (λ (pair : List ℕ × List ℕ). pair.0) versions_under p.directory.objects)
    ∙ ap (map (λ (pair : List ℕ × List ℕ). pair.0)) h.versions
    ∙ map-map (λ (pair : List ℕ × List ℕ). pair.0) (stood_under stands) s.numbers

pub as_many : (g : Shape) (max : ℕ) (stands : List ℕ) (p : Places) (s : State) → IsSeenAs g max stands p s → length s.numbers ≡ length s.objects
as_many g max stands p s h =
    sym (length-map s.numbers (λ (object : List ℕ × List ℕ). object.0)) ∙ ap length (sym (lengths_named g max stands p s h)) ∙ length-map s.objects (λ (object : List ℕ × List ℕ). object.0)

-- ---- more pins leave no more garbage
none_more : (d e : Directory) → ((v : ℕ) → is_pinned d v ≡ true → is_pinned e v ≡ true) → (start : ℕ) (versions : List Version) → find (is_free d) (enumerate_from start versions) ≡ None →
    find (is_free e) (enumerate_from start versions) ≡ None
none_more d e more start [] none = refl
none_more d e more start (x ∷ versions) none =
    by (is_free d (start, x)) refl none (none_more d e more (start + 1) versions)
  where
    still : (a b c : Bool) → (b ≡ true → c ≡ true) → (a && not b) ≡ false → (a && not c) ≡ false
    still true true c pin free = ap not (pin refl)
    still true false c pin free = absurd (true≢false free)
    still false b c pin free = refl

    by : (b : Bool) → is_free d (start, x) ≡ b → cond {A = Option (ℕ × Version)} b (Some (start, x)) (find (is_free d) (enumerate_from (start + 1) versions)) ≡ None →
        (find (is_free d) (enumerate_from (start + 1) versions) ≡ None → find (is_free e) (enumerate_from (start + 1) versions) ≡ None) →
        find (is_free e) (enumerate_from start (x ∷ versions)) ≡ None
    by true is none rest = absurd (none-some {A = ℕ × Version} (start, x) (sym none))
    by false is none rest =
        ap (λ b. cond {A = Option (ℕ × Version)} b (Some (start, x)) (find (is_free e) (enumerate_from (start + 1) versions)))
        (still (is_superseded_standing x.standing) (is_pinned d start) (is_pinned e start) (more start) is)
        ∙ rest none

clean_more : (d e : Directory) → e.versions ≡ d.versions → ((v : ℕ) → is_pinned d v ≡ true → is_pinned e v ≡ true) → first_garbage d ≡ None → first_garbage e ≡ None
clean_more d e same more clean =
    ap (λ versions. option_map (λ (entry : ℕ × Version). entry.0) (find (is_free e) (enumerate_from 0 versions))) same
    ∙ ap (option_map (λ (entry : ℕ × Version). entry.0))
    (none_more d e more 0 d.versions (is_none_by (λ (entry : ℕ × Version). entry.0) (find (is_free d) (enumerate_from 0 d.versions)) clean))

-- ---- the snapshot's bytes are the map's
under_same : (contents : List (List ℕ)) (stands : List ℕ) (object : List ℕ × List ℕ) →
    contents_under contents stands object ≡ (let pair : List ℕ × List (List ℕ) = (object.0, map (λ v. get_or contents v []) (map (version_of stands) object.1)) in pair)
under_same contents stands object =
    ap (λ (cs : List (List ℕ)). let pair : List ℕ × List (List ℕ) = (object.0, cs) in pair) (sym (map-map (λ v. get_or contents v []) (version_of stands) object.1))

-- an object's contents, by its versions
abbrev stored : List (List ℕ) → List ℕ × List ℕ → List ℕ × List (List ℕ)
stored contents pair = (pair.0, map (λ v. get_or contents v []) pair.1)

kept_by : (contents : List (List ℕ)) (stands : List ℕ) (objects : List Object) (numbers : Numbering) → map versions_under objects ≡ map (stood_under stands) numbers →
    map (contents_under contents stands) numbers ≡ stored_in contents objects
kept_by contents stands objects numbers same =
    map_same (contents_under contents stands) (λ object. stored contents (stood_under stands object)) (under_same contents stands) numbers
    ∙ sym (map-map (stored contents) (stood_under stands) numbers)
    ∙ ap (map (stored contents)) (sym same)
    ∙ map-map (stored contents) versions_under objects

kept_bytes : (calls : Calls) (g : Shape) (max : ℕ) (stands : List ℕ) (q : Places) (s : State) → IsSeenAs g max stands q s → Whole calls g max q.directory → map_by calls max q.directory.points ≡ s.objects →
    map (contents_under (contents_by g calls q.directory.versions) stands) s.numbers ≡ stripes_in g s.objects
kept_bytes calls g max stands q s seen whole same =
    kept_by (contents_by g calls q.directory.versions) stands q.directory.objects s.numbers seen.versions
    ∙ subst₂ (λ g max. stored_in (contents_by g calls q.directory.versions) q.directory.objects ≡ stripes_in g (map_by calls max q.directory.points)) whole.shape whole.most whole.bytes.contents
    ∙ ap (stripes_in g) same

module _ (calls : Calls) (g : Shape) (max tries : ℕ) (seats : Seats) (stands : List ℕ) (p : Places) (s : State) (some : 0 < stripe_length g) (h : IsBetween calls g max seats stands p s) where
  abbrev pub next_seats : Seats
  next_seats = seats_after Request.Snap seats

  -- a number that was left out
  tickets_raised : (number : ℕ) (readers : List ℕ) (numbers : Numbering) → AllByRecursion (Agrees p.directory) (tickets_of stands number seats.looks readers numbers) →
      AllByRecursion (Agrees p.directory) (tickets_of stands number (seats.looks + 1) readers numbers)
  tickets_raised number [] numbers all = tt
  tickets_raised number (reader ∷ readers) [] all =
      (seat_raised p.directory (actor.Client reader) seats.looks (seats.looks + 1) (omega arith) all.0, tickets_raised number readers [] all.1)
  tickets_raised number (reader ∷ readers) (object ∷ numbers) all = (all.0, tickets_raised number readers numbers all.1)

  used_raised : (number : ℕ) (snapshot : Option Snapshot) → IfSome snapshot (λ kept. number < seats.looks) → IfSome snapshot (λ kept. number < seats.looks + 1)
  used_raised number None used = tt
  used_raised number (Some kept) used = let less : number < seats.looks = used in omega (arith, less)

  pub nothing_taken : IsBetween calls g max next_seats stands p s
  nothing_taken = record {
    seen = h.seen;
    pinned = h.pinned;
    quiet = h.quiet;
    its_map = h.its_map;
    client = h.client;
    repairer = h.repairer;
    healer = h.healer;
    apart = h.apart;
    readers = h.readers;
    snapshot = record {
      number = h.snapshot.number;
      used = used_raised h.snapshot.number s.snapshot h.snapshot.used;
      few = h.snapshot.few;
      tickets = tickets_raised h.snapshot.number seats.readers (kept_numbers s.snapshot) h.snapshot.tickets;
      others = h.snapshot.others;
      bytes = h.snapshot.bytes;
    };
  }

  -- ---- looks at the first objects, where no snapshot is open
  module _ (none : s.snapshot ≡ None) (todo : Numbering) (few : length todo ≤ length seats.readers)
      (its : AllByRecursion (InDirectory g stands p.directory.objects) todo) (known : AreLooks calls seats.looks seats.readers (names_of todo)) where
    abbrev pub after_looks : Places
    after_looks = look_all seats.looks seats.readers (names_of todo) p

    pub seats_free : AllByRecursion (Agrees p.directory) (tickets_of stands seats.looks seats.looks seats.readers [])
    seats_free = retold seats.readers (subst (λ snapshot. AllByRecursion (Agrees p.directory) (tickets_of stands h.snapshot.number seats.looks seats.readers (kept_numbers snapshot))) none h.snapshot.tickets)
      where
        retold : (readers : List ℕ) → AllByRecursion (Agrees p.directory) (tickets_of stands h.snapshot.number seats.looks readers []) →
            AllByRecursion (Agrees p.directory) (tickets_of stands seats.looks seats.looks readers [])
        retold [] all = tt
        retold (reader ∷ readers) all = (all.0, retold readers all.1)

    distinct : IsDistinct nat_eq seats.readers
    unfolding IsDistinct
    distinct = h.readers.once.1

    pub made : AreLooked calls g max stands s seats.looks seats.readers todo p after_looks
    made = all_made calls g max stands s some seats.looks seats.readers todo p few distinct h.seen (whole_of calls g max stands p s h.seen h.its_map) seats_free its known

    pub seat_left : (who : Actor) (unused : ℕ) → is_reader seats.readers who ≡ false → MayBeginFrom p.directory who unused → MayBeginFrom after_looks.directory who unused
    seat_left who unused apart seat = made.left (ActorToken.Seated (record { actor = who; unused = unused; told = None })) apart seat

    pub others_left : (who : Actor) → is_reader seats.readers who ≡ false → pass_of who after_looks.directory ≡ None
    others_left who apart =
        let n : (n : ℕ) × AreBelow who n p.directory.points = unused_of who p.directory.points in
        (seat_left who n.0 apart (record { no_pass = h.snapshot.others who apart; numbers = n.1; told = tt })).no_pass

    pub points_same : map_by calls max after_looks.directory.points ≡ s.objects
    points_same = made.points ∙ same_of calls g max stands p s h.seen h.its_map

  -- ---- a snapshot is taken
  pub few_numbers : nat_lt most_objects (length s.objects) ≡ false → length s.numbers ≤ length seats.readers
  few_numbers small =
      let enough : most_objects ≤ length seats.readers = h.readers.enough in
      let less : length s.objects ≤ most_objects = ltb-false most_objects (length s.objects) small in
      let same : length s.numbers ≡ length s.objects = as_many g max stands p s h.seen in
      omega (arith, enough, less, same)

  pub snap_is : s.snapshot ≡ None → nat_lt most_objects (length s.objects) ≡ false →
      snap s.snapshot s ≡ (record s { snapshot = Some (record { objects = s.objects; numbers = s.numbers; stripes = s.stripes }) }, Answer.Replied reply.Done)
  snap_is none small =
      ap (λ found. snap found s) none
      ∙ ap (λ b.
      let r : State × Answer = if b then (s, Answer.TooMany (length s.objects)) else (record s { snapshot = Some (record { objects = s.objects; numbers = s.numbers; stripes = s.stripes }) }, Answer.Replied reply.Done) in r) small

  module _ (none : s.snapshot ≡ None) (small : nat_lt most_objects (length s.objects) ≡ false) (known : AreLooks calls seats.looks seats.readers (names_of s.objects)) where
    abbrev kept : Snapshot
    kept = record { objects = s.objects; numbers = s.numbers; stripes = s.stripes }

    abbrev taken : State
    taken = record s { snapshot = Some kept }

    few : length s.numbers ≤ length seats.readers
    few = few_numbers small

    known_numbers : AreLooks calls seats.looks seats.readers (names_of s.numbers)
    known_numbers = subst (AreLooks calls seats.looks seats.readers) (lengths_named g max stands p s h.seen) known

    abbrev q : Places
    q = look_all seats.looks seats.readers (names_of s.numbers) p

    looks : AreLooked calls g max stands s seats.looks seats.readers s.numbers p (look_all seats.looks seats.readers (names_of s.numbers) p)
    looks = made none s.numbers few (all_in_directory g max stands p s h.seen) known_numbers

    abbrev versions_kept : List ℕ
    versions_kept = map (version_of stands) (all_numbers s.numbers)

    within : (n : ℕ) → is_among n (all_numbers s.numbers) ≡ true → is_among (version_of stands n) versions_kept ≡ true
    within n e = among_map (all_numbers s.numbers) e
      where
        among_map : (ns : List ℕ) → is_among n ns ≡ true → is_among (version_of stands n) (map (version_of stands) ns) ≡ true
        among_map [] e = e
        among_map (m ∷ ns) e = by (or_cases (nat_eq n m) (is_among n ns) e) (among_map ns)
          where
            by : (nat_eq n m ≡ true) ⊎ (is_among n ns ≡ true) → (is_among n ns ≡ true → is_among (version_of stands n) (map (version_of stands) ns) ≡ true) →
                (nat_eq (version_of stands n) (version_of stands m) || is_among (version_of stands n) (map (version_of stands) ns)) ≡ true
            by (inl same) rest = or_left _ _ (eq-eqb (version_of stands n) (version_of stands m) (ap (version_of stands) (eqb-true n m same)))
            by (inr later) rest = or_right _ _ (rest later)

    -- before the looks no pass pins anything
    passes_before : All (IsOfSnapshot versions_kept) p.directory.passes
    passes_before =
        All-weaker (IsOfSnapshot (map (version_of stands) (snapshot_numbers s.snapshot))) (IsOfSnapshot versions_kept)
        (λ pass its. record {
          kind = its.kind;
          drawn = its.drawn;
          alive = its.alive;
          pins =
              All-weaker (λ (pin : Pin). IsTrue (is_among pin.version (map (version_of stands) (snapshot_numbers s.snapshot)))) (λ (pin : Pin). IsTrue (is_among pin.version versions_kept))
              (λ pin e. absurd (true≢false (sym (ap (λ snapshot. is_among pin.version (map (version_of stands) (snapshot_numbers snapshot))) (sym none) ∙ e)))) pass.pinned its.pins;
        }) p.directory.passes h.quiet.passes

    live_more : (v : ℕ) → IsTrue (is_among v (map (version_of stands) (live_numbers s))) → IsTrue (is_among v (map (version_of stands) (live_numbers taken)))
    live_more v e =
        ap (is_among v) (map-append (version_of stands) (all_numbers s.numbers) (all_numbers s.numbers))
        ∙ among_append v versions_kept versions_kept
        ∙ or_left (is_among v versions_kept) (is_among v versions_kept) (only (or_cases (is_among v versions_kept) (is_among v (map (version_of stands) (snapshot_numbers s.snapshot)))
        (sym (ap (is_among v) (map-append (version_of stands) (all_numbers s.numbers) (snapshot_numbers s.snapshot)) ∙ among_append v versions_kept (map (version_of stands) (snapshot_numbers s.snapshot))) ∙ e)))
      where
        only : (is_among v versions_kept ≡ true) ⊎ (is_among v (map (version_of stands) (snapshot_numbers s.snapshot)) ≡ true) → is_among v versions_kept ≡ true
        only (inl here) = here
        only (inr there) = absurd (true≢false (sym (ap (λ snapshot. is_among v (map (version_of stands) (snapshot_numbers snapshot))) (sym none) ∙ there)))

    quiet_taken : IsQuiet stands q taken
    quiet_taken = record {
      passes = looks.passes versions_kept passes_before within;
      clean = clean_more p.directory q.directory looks.versions looks.more h.quiet.clean;
      held =
          subst (λ servers. All (λ (server : Server). All (λ version. IsTrue (is_among version (map (version_of stands) (live_numbers taken)))) server.held) servers) (sym looks.servers)
          (All-weaker (λ (server : Server). All (λ version. IsTrue (is_among version (map (version_of stands) (live_numbers s)))) server.held)
          (λ (server : Server). All (λ version. IsTrue (is_among version (map (version_of stands) (live_numbers taken)))) server.held)
          (λ server all.
          All-weaker (λ version. IsTrue (is_among version (map (version_of stands) (live_numbers s)))) (λ version. IsTrue (is_among version (map (version_of stands) (live_numbers taken)))) live_more server.held all)
          p.servers h.quiet.held);
      standing = subst (λ versions. All IsAtRest versions) (sym looks.versions) h.quiet.standing;
    }

    pub taken_between : IsBetween calls g max next_seats stands q taken
    taken_between = record {
      seen = subst (λ (r : State × Answer). IsSeenAs g max stands q r.0) (snap_is none small) (snaps_are_seen.taken g max stands q s looks.seen);
      pinned = λ n e. looks.pinned n e;
      quiet = quiet_taken;
      its_map = map_of calls g max q taken looks.whole (looks.points ∙ same_of calls g max stands p s h.seen h.its_map);
      client = seat_left none s.numbers few (all_in_directory g max stands p s h.seen) known_numbers (actor.Client seats.client) seats.calls (client_apart seats.client seats.readers h.readers) h.client;
      repairer = seat_left none s.numbers few (all_in_directory g max stands p s h.seen) known_numbers (actor.Repairer seats.repairer) seats.rebuilds refl h.repairer;
      healer = seat_left none s.numbers few (all_in_directory g max stands p s h.seen) known_numbers (actor.Repairer seats.healer) s.next refl h.healer;
      apart = h.apart;
      readers = h.readers;
      snapshot = record {
        number = seats.looks;
        used = (let less : seats.looks < seats.looks + 1 = omega arith in less);
        few = few;
        tickets = looks.tickets;
        others = others_left none s.numbers few (all_in_directory g max stands p s h.seen) known_numbers;
        bytes = kept_bytes calls g max stands q s looks.seen looks.whole (looks.points ∙ same_of calls g max stands p s h.seen h.its_map);
      };
    }

    pub names_same : look_all seats.looks seats.readers (names_of s.numbers) p ≡ look_all seats.looks seats.readers (names_of s.objects) p
    names_same = ap (λ names. look_all seats.looks seats.readers names p) (sym (lengths_named g max stands p s h.seen))

  abbrev Snaps : State × Answer → Type 0
  Snaps served = (after : Places) × IsSnapServed seats s p served.1 after × IsBetween calls g max next_seats stands after served.0

  pub snap_served : MayBeAsked calls g seats s Request.Snap → IsServedAlone calls g max tries seats s Request.Snap p
  snap_served may = let snaps : Snaps (snap s.snapshot s) = options s.snapshot closed open_one in record { after = snaps.0; stands = stands; served = snaps.1; between = snaps.2 }
    where
      open_one : (other : Snapshot) → s.snapshot ≡ Some other → Snaps (snap s.snapshot s)
      open_one other e = subst (λ found. Snaps (snap found s)) (sym e) (p, refl, nothing_taken)

      closed : s.snapshot ≡ None → Snaps (snap s.snapshot s)
      closed none = cases (nat_lt most_objects (length s.objects)) many few_enough
        where
          many : nat_lt most_objects (length s.objects) ≡ true → Snaps (snap s.snapshot s)
          many e =
              subst Snaps
              (sym (ap (λ found. snap found s) none
              ∙ ap (λ b. let r : State × Answer = if b then (s, Answer.TooMany (length s.objects)) else (record s { snapshot = Some (record { objects = s.objects; numbers = s.numbers; stripes = s.stripes }) }, Answer.Replied reply.Done) in r) e))
              (p, refl, nothing_taken)

          few_enough : nat_lt most_objects (length s.objects) ≡ false → Snaps (snap s.snapshot s)
          few_enough e =
              let known : AreLooks calls seats.looks seats.readers (names_of s.objects) = may (ap (λ (r : State × Answer). r.1) (snap_is none e)) in
              subst Snaps (sym (snap_is none e)) (look_all seats.looks seats.readers (names_of s.numbers) p, names_same none e known, taken_between none e known)
