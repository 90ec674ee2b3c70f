-- The readers' tickets and what the snapshot keeps, where other actors go on.
-- What each step of an actor keeps is kept by its calls, rebuilds and sweeps (IsReachedBy, for every property of the directory), so one
-- record (Held: the readers' tickets, and what the pinned versions stand for) goes through every request by one lemma (holds_after). That
-- nobody else has a pass needs no walk: another's seat stays by agreement, with a bound of its numbers found among the points
-- (unused_of), and the caller's own seat is known at its end. Looks and ends are inductions along readers and objects at once. A read of
-- a snapshot is the steps of a get after its look; the walk of gatherings serves it unchanged, for an actor without a pass, and stops
-- where the pass would end (from_steps).
use Rattle.std.proofs.Common.{◌≡◌, ℕ, ◌+◌, ◌<◌, nat_eq, Bool, true, false, ◌||◌, List, [], ◌∷◌, ◌++◌, length, map, get_or, IsTrue, Option, None, Some, refl, sym, ap, subst, subst₂, ◌∙◌, arith, length-append}
use Rattle.std.specs.List.{AllByRecursion, IsDistinct, enumerate_from}
use Rattle.std.proofs.lemmas.Bool.{true≢false, or_left, or_right}
use Rattle.std.proofs.lemmas.List.{get_or_append_left}
use Rattle.std.proofs.lemmas.List.Elements.{All-nil, All-cons, All-weaker}
use Rattle.clay_grid.specs.Shape.{Shape, chunk_count, stripe_length}
use Rattle.store_map.specs.declared.actor.Actor.{Actor}
use Rattle.store_map.specs.declared.actor.Actor.TheVariants as actor
use Rattle.store_core.specs.Lists.{is_among}
use Rattle.store_core.specs.Directory.{Point, Directory}
use Rattle.store_core.specs.Lookups.{same_actor, pass_of}
use Rattle.store_core.specs.Agreement.{ActorToken, AreBelow, Agrees}
use Rattle.store_core.specs.Tokens.{actor_of}
use Rattle.store_core.specs.AtDirectory.{at_directory}
use Rattle.store_core.specs.Calls.{Calls}
use Rattle.store_core.specs.Content.{contents_by}
use Rattle.store_core.specs.Step.{Places}
use Rattle.run_laws.proofs.Passes.{same_is}
use Rattle.run_laws.proofs.BesideSteps.{others_agree}
use Rattle.run_laws.proofs.ContentGrows.{count_contents}
use Rattle.run_laws.proofs.Stays.{contents_stay}
use Rattle.run_laws.proofs.VersionsMove.{versions_move}
use Rattle.session_rules.specs.State.{Numbering, Snapshot, State}
use Rattle.session_rules.specs.Seen.{version_of, all_numbers, snapshot_numbers, live_numbers, IsSeenAs}
use Rattle.session_rules.proofs.Counting.{among_append}
use Rattle.session_rules.proofs.Committed.{some_servers, stripe_there, version_there}
use Rattle.session_rules.specs.Seats.{MayBeginFrom}
use Rattle.session_rules.specs.Readers.{AreReaders, is_reader, kept_numbers, pin_at, look_at, tickets_of, contents_under, StandForBytes, HoldsSnapshot}
use Rattle.session_rules.proofs.Leaving.{IsKeptBy, IsReachedBy}

-- ---- actors that are no readers
neither : (a b : Bool) → (a || b) ≡ false → (a ≡ false) × (b ≡ false)
neither true b e = absurd (true≢false e)
neither false b e = (refl, e)

pub apart_of : (who : Actor) (reader : ℕ) (readers : List ℕ) → is_reader (reader ∷ readers) who ≡ false → (same_actor who (actor.Client reader) ≡ false) × (is_reader readers who ≡ false)
apart_of (actor.Client i) reader readers e = neither (nat_eq i reader) (is_among i readers) e
apart_of (actor.Repairer i) reader readers e = (refl, refl)
apart_of actor.Sweeper reader readers e = (refl, refl)
apart_of actor.Operator reader readers e = (refl, refl)

pub none_among : (i : ℕ) (readers : List ℕ) → AllByRecursion (λ reader. nat_eq i reader ≡ false) readers → is_among i readers ≡ false
none_among i [] all = refl
none_among i (reader ∷ readers) all = ap (λ b. b || is_among i readers) all.0 ∙ none_among i readers all.1

-- the client that makes the calls is none
pub client_apart : (client : ℕ) (readers : List ℕ) → AreReaders client readers → is_reader readers (actor.Client client) ≡ false
unfolding IsDistinct
client_apart client readers its = none_among client readers its.once.0

-- ---- lists that are alike at what is among them
map_alike : {X : Type 0} (f h : ℕ → X) (ns : List ℕ) → ((n : ℕ) → is_among n ns ≡ true → f n ≡ h n) → map f ns ≡ map h ns
map_alike f h [] same = refl
map_alike {X = X} f h (n ∷ ns) same =
    ap (λ (x : X). x ∷ map f ns) (same n (or_left (nat_eq n n) (is_among n ns) (Rattle.std.proofs.lemmas.Bool.eq-eqb n n refl)))
    ∙ ap (λ (xs : List X). h n ∷ xs) (map_alike f h ns (λ m e. same m (or_right (nat_eq m n) (is_among m ns) e)))

module _ (object : List ℕ × List ℕ) (numbers : Numbering) (n : ℕ) where
  pub among_first : is_among n object.1 ≡ true → is_among n (all_numbers (object ∷ numbers)) ≡ true
  among_first e = among_append n object.1 (all_numbers numbers) ∙ or_left (is_among n object.1) (is_among n (all_numbers numbers)) e

  pub among_later : is_among n (all_numbers numbers) ≡ true → is_among n (all_numbers (object ∷ numbers)) ≡ true
  among_later e = among_append n object.1 (all_numbers numbers) ∙ or_right (is_among n object.1) (is_among n (all_numbers numbers)) e

contents_alike : (f h : List ℕ × List ℕ → List ℕ × List (List ℕ)) (numbers : Numbering) →
    ((object : List ℕ × List ℕ) → ((n : ℕ) → is_among n object.1 ≡ true → is_among n (all_numbers numbers) ≡ true) → f object ≡ h object) → map f numbers ≡ map h numbers
contents_alike f h [] same = refl
contents_alike f h (object ∷ numbers) same =
    ap (λ (x : List ℕ × List (List ℕ)). x ∷ map f numbers) (same object (among_first object numbers))
    ∙ ap (λ (xs : List (List ℕ × List (List ℕ))). h object ∷ xs) (contents_alike f h numbers (λ other within. same other (λ n e. among_later object numbers n (within n e))))

-- ---- more contents
contents_grown : (contents more : List (List ℕ)) (stands : List ℕ) (numbers : Numbering) → ((n : ℕ) → is_among n (all_numbers numbers) ≡ true → version_of stands n < length contents) →
    map (contents_under (contents ++ more) stands) numbers ≡ map (contents_under contents stands) numbers
contents_grown contents more stands numbers there =
    contents_alike (contents_under (contents ++ more) stands) (contents_under contents stands) numbers
    (λ object within.
    ap (λ (cs : List (List ℕ)). let pair : List ℕ × List (List ℕ) = (object.0, cs) in pair)
    (map_alike (λ n. get_or (contents ++ more) (version_of stands n) []) (λ n. get_or contents (version_of stands n) []) object.1
    (λ n e. get_or_append_left contents more [] (version_of stands n) (there n (within n e)))))

-- ---- versions that stand for the numbers as well
module _ (stands stood : List ℕ) where
  pins_alike : (a : ℕ) (ns : List ℕ) → ((n : ℕ) → is_among n ns ≡ true → version_of stood n ≡ version_of stands n) → map (pin_at stood) (enumerate_from a ns) ≡ map (pin_at stands) (enumerate_from a ns)
  pins_alike a [] same = refl
  pins_alike a (n ∷ ns) same =
      ap (λ v. record { stripe = a; version = v } ∷ map (pin_at stood) (enumerate_from (a + 1) ns)) (same n (or_left (nat_eq n n) (is_among n ns) (Rattle.std.proofs.lemmas.Bool.eq-eqb n n refl)))
      ∙ ap (λ pins. pin_at stands (a, n) ∷ pins) (pins_alike (a + 1) ns (λ m e. same m (or_right (nat_eq m n) (is_among m ns) e)))

  pub tickets_alike : (number unused : ℕ) (readers : List ℕ) (numbers : Numbering) → ((n : ℕ) → is_among n (all_numbers numbers) ≡ true → version_of stood n ≡ version_of stands n) →
      tickets_of stood number unused readers numbers ≡ tickets_of stands number unused readers numbers
  tickets_alike number unused [] numbers same = refl
  tickets_alike number unused (reader ∷ readers) [] same =
      ap (λ (tickets : List ActorToken). ActorToken.Seated (record { actor = actor.Client reader; unused = unused; told = None }) ∷ tickets) (tickets_alike number unused readers [] same)
  tickets_alike number unused (reader ∷ readers) (object ∷ numbers) same =
      ap (λ pins. ActorToken.InCall (record { pass = record (look_at stands number reader object) { pinned = pins }; told = None }) ∷ tickets_of stood number unused readers numbers)
      (pins_alike 0 object.1 (λ n e. same n (among_first object numbers n e)))
      ∙ ap (λ (tickets : List ActorToken). ActorToken.InCall (record { pass = look_at stands number reader object; told = None }) ∷ tickets)
      (tickets_alike number unused readers numbers (λ n e. same n (among_later object numbers n e)))

-- ---- what stays by each step of an actor that is no reader
pub record Held (calls : Calls) (g : Shape) (readers : List ℕ) (stands : List ℕ) (number unused : ℕ) (snapshot : Option Snapshot) (d : Directory) : Type 0 where
  pub shape : d.shape ≡ g
  pub tickets : AllByRecursion (Agrees d) (tickets_of stands number unused readers (kept_numbers snapshot))
  pub there : (n : ℕ) → is_among n (snapshot_numbers snapshot) ≡ true → version_of stands n < length (contents_by g calls d.versions)
  pub bytes : StandForBytes calls g stands d snapshot

pub tickets_kept : (stands : List ℕ) (number unused : ℕ) (d after : Directory) (who : Actor) → ((token : ActorToken) → same_actor who (actor_of token) ≡ false → Agrees d token → Agrees after token) →
    (readers : List ℕ) (numbers : Numbering) → is_reader readers who ≡ false → AllByRecursion (Agrees d) (tickets_of stands number unused readers numbers) →
    AllByRecursion (Agrees after) (tickets_of stands number unused readers numbers)
tickets_kept stands number unused d after who still [] numbers apart all = tt
tickets_kept stands number unused d after who still (reader ∷ readers) [] apart all = (
  still (ActorToken.Seated (record { actor = actor.Client reader; unused = unused; told = None })) (apart_of who reader readers apart).0 all.0,
  tickets_kept stands number unused d after who still readers [] (apart_of who reader readers apart).1 all.1,
)
tickets_kept stands number unused d after who still (reader ∷ readers) (object ∷ numbers) apart all = (
  still (ActorToken.InCall (record { pass = look_at stands number reader object; told = None })) (apart_of who reader readers apart).0 all.0,
  tickets_kept stands number unused d after who still readers numbers (apart_of who reader readers apart).1 all.1,
)

module _ (calls : Calls) (g : Shape) (readers : List ℕ) (stands : List ℕ) (number unused : ℕ) (snapshot : Option Snapshot) where
  abbrev Keeps : Directory → Type 0
  Keeps d = Held calls g readers stands number unused snapshot d

  -- earlier contents stay
  abbrev Grown : Shape → Directory → Directory → Type 0
  Grown shape d after = (more : List (List ℕ)) × (contents_by shape calls after.versions ≡ contents_by shape calls d.versions ++ more)

  bytes_kept : (d after : Directory) → Grown g d after → (found : Option Snapshot) → ((n : ℕ) → is_among n (snapshot_numbers found) ≡ true → version_of stands n < length (contents_by g calls d.versions)) →
      StandForBytes calls g stands d found → StandForBytes calls g stands after found
  bytes_kept d after (more, is) None there bytes = tt
  bytes_kept d after (more, is) (Some kept) there bytes =
      ap (λ contents. map (contents_under contents stands) kept.numbers) is ∙ contents_grown (contents_by g calls d.versions) more stands kept.numbers there ∙ bytes

  pub held_kept : (who : Actor) → is_reader readers who ≡ false → IsKeptBy Keeps who
  held_kept who apart short n step d h = record {
    shape = (versions_move short who n step d).shape ∙ h.shape;
    tickets = tickets_kept stands number unused d (at_directory short who n step d).0 who (λ token apart agrees. others_agree short who n step d token apart agrees) readers (kept_numbers snapshot) apart h.tickets;
    there = λ m e. longer (h.there m e);
    bytes = bytes_kept d (at_directory short who n step d).0 grown snapshot h.there h.bytes;
  }
    where
      grown : Grown g d (at_directory short who n step d).0
      grown = subst (λ shape. Grown shape d (at_directory short who n step d).0) h.shape (contents_stay calls short who n step d)

      longer : {v : ℕ} → v < length (contents_by g calls d.versions) → v < length (contents_by g calls (at_directory short who n step d).0.versions)
      longer {v = v} less =
          let counts : length (contents_by g calls (at_directory short who n step d).0.versions) ≡ length (contents_by g calls d.versions) + length grown.0 =
          ap length grown.1 ∙ length-append (contents_by g calls d.versions) grown.0 in
          omega (arith, less, counts)

-- ---- from what stands between requests, and back
-- live numbers have versions, and those that are put behind leave them
module _ (g : Shape) (max : ℕ) (stands : List ℕ) (p : Places) (s : State) (some : 0 < stripe_length g) (seen : IsSeenAs g max stands p s) where
  at_its_shape : IsSeenAs p.directory.shape p.directory.max stands p s
  at_its_shape = subst₂ (λ g max. IsSeenAs g max stands p s) (sym seen.shape) (sym seen.most) seen

  servers_there : 0 < chunk_count p.directory.shape
  servers_there = subst (λ shape. 0 < chunk_count shape) (sym seen.shape) (some_servers g some)

  kept_live : (n : ℕ) → is_among n (snapshot_numbers s.snapshot) ≡ true → is_among n (live_numbers s) ≡ true
  kept_live n e = among_append n (all_numbers s.numbers) (snapshot_numbers s.snapshot) ∙ or_right (is_among n (all_numbers s.numbers)) (is_among n (snapshot_numbers s.snapshot)) e

  pub same_stood : (more : List ℕ) (n : ℕ) → is_among n (snapshot_numbers s.snapshot) ≡ true → version_of (stands ++ more) n ≡ version_of stands n
  same_stood more n e =
      let less : n < length s.stripes = stripe_there stands p s at_its_shape servers_there 0 n (kept_live n e) in
      let same : length stands ≡ length s.stripes = seen.count in
      get_or_append_left stands more 0 n (omega (arith, less, same))

  pub held_of : (calls : Calls) (readers : List ℕ) (unused : ℕ) → (h : HoldsSnapshot calls g readers unused stands p.directory s.snapshot) →
      Held calls g readers stands h.number unused s.snapshot p.directory
  held_of calls readers unused h = record {
    shape = seen.shape;
    tickets = h.tickets;
    there = λ n e.
        subst (λ k. version_of stands n < k) (sym (count_contents calls g p.directory.versions))
        (version_there stands p s at_its_shape servers_there 0 (get_or s.stripes n []) (version_of stands n) (seen.stripes n (kept_live n e)));
    bytes = h.bytes;
  }

numbers_are : (snapshot : Option Snapshot) → snapshot_numbers snapshot ≡ all_numbers (kept_numbers snapshot)
numbers_are None = refl
numbers_are (Some kept) = refl

bytes_stood : (calls : Calls) (g : Shape) (stands stood : List ℕ) (d : Directory) (snapshot : Option Snapshot) → ((n : ℕ) → is_among n (snapshot_numbers snapshot) ≡ true → version_of stood n ≡ version_of stands n) →
    StandForBytes calls g stands d snapshot → StandForBytes calls g stood d snapshot
bytes_stood calls g stands stood d None same bytes = tt
bytes_stood calls g stands stood d (Some kept) same bytes =
    contents_alike (contents_under (contents_by g calls d.versions) stood) (contents_under (contents_by g calls d.versions) stands) kept.numbers
    (λ object within.
    ap (λ (cs : List (List ℕ)). let pair : List ℕ × List (List ℕ) = (object.0, cs) in pair)
    (map_alike (λ n. get_or (contents_by g calls d.versions) (version_of stood n) []) (λ n. get_or (contents_by g calls d.versions) (version_of stands n) []) object.1
    (λ n e. ap (λ v. get_or (contents_by g calls d.versions) v []) (same n (within n e)))))
    ∙ bytes

pub holds_again : (calls : Calls) (g : Shape) (readers : List ℕ) (unused : ℕ) (stands stood : List ℕ) (before after : Directory) (snapshot : Option Snapshot)
    (h : HoldsSnapshot calls g readers unused stands before snapshot) → Held calls g readers stands h.number unused snapshot after →
    ((n : ℕ) → is_among n (snapshot_numbers snapshot) ≡ true → version_of stood n ≡ version_of stands n) → ((who : Actor) → is_reader readers who ≡ false → pass_of who after ≡ None) →
    HoldsSnapshot calls g readers unused stood after snapshot
holds_again calls g readers unused stands stood before after snapshot h held same others = record {
  number = h.number;
  used = h.used;
  few = h.few;
  tickets =
      subst (AllByRecursion (Agrees after))
      (sym (tickets_alike stands stood h.number unused readers (kept_numbers snapshot) (λ n e. same n (ap (is_among n) (numbers_are snapshot) ∙ e)))) held.tickets;
  others = others;
  bytes = bytes_stood calls g stands stood after snapshot same held.bytes;
}

-- ---- the other actors
pub unused_of : (who : Actor) (points : List Point) → (n : ℕ) × AreBelow who n points
unused_of who [] = (0, All-nil (λ (point : Point). IsTrue (same_actor point.actor who) → point.number < 0))
unused_of who (point ∷ points) =
    let rest : (n : ℕ) × AreBelow who n points = unused_of who points in (
      point.number + 1 + rest.0,
      All-cons (λ (p : Point). IsTrue (same_actor p.actor who) → p.number < point.number + 1 + rest.0) point points (λ _. omega arith)
          (All-weaker (λ (p : Point). IsTrue (same_actor p.actor who) → p.number < rest.0) (λ (p : Point). IsTrue (same_actor p.actor who) → p.number < point.number + 1 + rest.0)
          (λ p below its. let less : p.number < rest.0 = below its in omega (arith, less)) points rest.1),
    )

pub others_left : (readers : List ℕ) (before after : Directory) (who : Actor) →
    ((other : Actor) (unused : ℕ) → same_actor who other ≡ false → MayBeginFrom before other unused → MayBeginFrom after other unused) → pass_of who after ≡ None →
    ((other : Actor) → is_reader readers other ≡ false → pass_of other before ≡ None) → (other : Actor) → is_reader readers other ≡ false → pass_of other after ≡ None
others_left readers before after who leaves own others other none = by (same_actor who other) refl
  where
    by : (b : Bool) → same_actor who other ≡ b → pass_of other after ≡ None
    by true e = subst (λ a. pass_of a after ≡ None) (same_is who other e) own
    by false e =
        let n : (n : ℕ) × AreBelow other n before.points = unused_of other before.points in
        (leaves other n.0 e (record { no_pass = others other none; numbers = n.1; told = tt })).no_pass

-- after steps of an actor that is no reader, and that is in no call then
pub holds_after : (calls : Calls) (g : Shape) (max : ℕ) (readers : List ℕ) (unused : ℕ) (stands stood : List ℕ) (p : Places) (s : State) → 0 < stripe_length g → IsSeenAs g max stands p s →
    HoldsSnapshot calls g readers unused stands p.directory s.snapshot → (who : Actor) → is_reader readers who ≡ false → (after : Directory) → IsReachedBy who p.directory after → pass_of who after ≡ None →
    ((n : ℕ) → is_among n (snapshot_numbers s.snapshot) ≡ true → version_of stood n ≡ version_of stands n) → HoldsSnapshot calls g readers unused stood after s.snapshot
holds_after calls g max readers unused stands stood p s some seen h who apart after reached own same =
    holds_again calls g readers unused stands stood p.directory after s.snapshot h
    (reached (Held calls g readers stands h.number unused s.snapshot) (held_kept calls g readers stands h.number unused s.snapshot who apart) (held_of g max stands p s some seen calls readers unused h)) same
    (others_left readers p.directory after who
    (λ other n away seat.
    reached (λ d. MayBeginFrom d other n)
    (λ short number step d sits. others_agree short who number step d (ActorToken.Seated (record { actor = other; unused = n; told = None })) away sits) seat) own h.others)
