-- A snapshot's looks, one after another: each pins its object's versions, and what is seen of the places stays.
use Rattle.std.proofs.Common.{◌≡◌, ◌⊎◌, ℕ, suc, ◌+◌, ◌-◌, ◌<◌, ◌≤◌, nat_eq, true, false, ◌||◌, cond, List, [], ◌∷◌, ◌++◌, length, map, get_or, find, bytes_eq, Option, None, Some, option_map, All, IfSome, IsTrue, refl, sym, ap, subst, ◌∙◌, inl, inr, arith}
use Rattle.std.specs.Bool.{⊤}
use Rattle.std.specs.List.{AllByRecursion, IsDistinct, enumerate_from, range_with_len, list_any}
use Rattle.std.proofs.lemmas.Bool.{true≢false, or_cases, or_left, or_right, eq-eqb, eqb-true}
use Rattle.std.proofs.lemmas.List.{length-map, get_or-map as get_or_at}
use Rattle.std.proofs.lemmas.List.Elements.{All-nil, All-cons, All-weaker}
use Rattle.std.proofs.lemmas.Simd.{map-map}
use Rattle.clay_grid.specs.Shape.{Shape, stripe_length}
use Rattle.store_map.specs.Limits.{stripes_met}
use Rattle.store_map.specs.Laws.{names_of}
use Rattle.store_map.specs.PlainMap.{bytes_of}
use Rattle.store_map.specs.declared.actor.Actor.{Actor}
use Rattle.store_map.specs.declared.actor.Actor.TheVariants as actor
use Rattle.store_map.specs.declared.call.Call.TheVariants as call
use Rattle.store_core.specs.Lists.{is_among}
use Rattle.store_core.specs.Note.{Kind, note_of, refusal}
use Rattle.store_core.specs.Act.{Act, DirectoryStep}
use Rattle.store_core.specs.Directory.{Object, Pin, Pass, Event, Point, Directory}
use Rattle.store_core.specs.Lookups.{same_actor, find_object, is_pinned}
use Rattle.store_core.specs.Look.{pin_of, seen_at, stripes_between}
use Rattle.store_core.specs.Looks.{look_by}
use Rattle.store_core.specs.Agreement.{ActorToken, AgreesWithPass, Agrees}
use Rattle.store_core.specs.Tokens.{actor_of}
use Rattle.store_core.specs.AtDirectory.{at_directory}
use Rattle.store_core.specs.Calls.{Calls}
use Rattle.store_core.specs.Conditions.{MayBegin}
use Rattle.store_core.specs.History.{applied}
use Rattle.store_core.specs.Sound.{HasItsVersions}
use Rattle.store_core.specs.Step.{Places, at_places}
use Rattle.run_laws.proofs.Beside.{self_actor, other_way}
use Rattle.run_laws.proofs.BesideSteps.{others_agree}
use Rattle.run_laws.proofs.Passes.{found_has}
use Rattle.run_laws.specs.MapAfter.{map_by}
use Rattle.run_laws.proofs.Laid.{zero_div}
use Rattle.session_rules.specs.State.{Numbering, State}
use Rattle.session_rules.specs.Seen.{version_of, all_numbers, IsSeenAs, IsOfSnapshot}
use Rattle.session_rules.proofs.Beside.{steps_are_unseen}
use Rattle.session_rules.proofs.Counting.{among_append}
use Rattle.session_rules.proofs.LostChunks.{own_numbers}
use Rattle.session_rules.proofs.Names.{under, under_objects, under_map, is_some_by}
use Rattle.session_rules.proofs.Quiet.{pins_it}
use Rattle.session_rules.proofs.Whole.{Whole, whole_step, one_point}
use Rattle.session_rules.specs.Seats.{MayBeginFrom}
use Rattle.session_rules.specs.Readers.{is_reader, pin_at, look_at, tickets_of}
use Rattle.session_rules.specs.AloneSnapshots.{look_all}
use Rattle.session_rules.specs.Serving.{AreLooks}
use Rattle.session_rules.proofs.Clients.{of_client}
use Rattle.session_rules.proofs.RunKept.{begins}
use Rattle.session_rules.proofs.Readers.{apart_of, none_among, tickets_kept}

-- a get is no delete
abbrev IsGet : Kind → Type 0
IsGet Kind.Get = ⊤
IsGet kind = ⊥

-- ---- an object as the directory has it
pub record InDirectory (g : Shape) (stands : List ℕ) (objects : List Object) (object : List ℕ × List ℕ) : Type 0 where
  pub there : Object
  pub found : find_object object.0 objects ≡ Some there
  pub versions : there.versions ≡ map (version_of stands) object.1
  pub count : length there.versions ≡ stripes_met (stripe_length g) 0 there.length

module _ (g : Shape) (max : ℕ) (stands : List ℕ) (p : Places) (s : State) (h : IsSeenAs g max stands p s) where
  in_directory : (object : List ℕ × List ℕ) → bytes_of object.0 s.numbers ≡ Some object.1 → InDirectory g stands p.directory.objects object
  in_directory object own = record {
    there = it.0;
    found = it.1;
    versions = it.2;
    count =
        subst (λ shape. length it.0.versions ≡ stripes_met (stripe_length shape) 0 it.0.length) h.shape
        (subst (λ f. IfSome f (HasItsVersions p.directory)) it.1 (found_has (HasItsVersions p.directory) (λ (other : Object). bytes_eq object.0 other.name) p.directory.objects h.sound.objects)).count;
  }
    where
      it : (there : Object) × (find_object object.0 p.directory.objects ≡ Some there) × (there.versions ≡ map (version_of stands) object.1)
      it =
          is_some_by (λ (other : Object). other.versions) (find_object object.0 p.directory.objects) (map (version_of stands) object.1)
          (sym (under_objects (λ (other : Object). other.versions) object.0 p.directory.objects) ∙ ap (under object.0) h.versions ∙ under_map (map (version_of stands)) object.0 s.numbers
          ∙ ap (option_map (map (version_of stands))) own)

  all_in : (numbers : Numbering) → AllByRecursion (λ (object : List ℕ × List ℕ). bytes_of object.0 s.numbers ≡ Some object.1) numbers →
      AllByRecursion (InDirectory g stands p.directory.objects) numbers
  all_in [] all = tt
  all_in (object ∷ numbers) all = (in_directory object all.0, all_in numbers all.1)

  pub all_in_directory : AllByRecursion (InDirectory g stands p.directory.objects) s.numbers
  all_in_directory = all_in s.numbers (own_numbers s.numbers h.names)

module _ (stands : List ℕ) where
  -- ---- the pins of all stripes
  pins_in_row : (v : ℕ → ℕ) (a : ℕ) (ns : List ℕ) → ((j : ℕ) → j < length ns → v (a + j) ≡ version_of stands (get_or ns j 0)) →
      map (λ i. let pin : Pin = record { stripe = i; version = v i } in pin) (range_with_len a (length ns)) ≡ map (pin_at stands) (enumerate_from a ns)
  pins_in_row v a [] same = refl
  pins_in_row v a (n ∷ ns) same =
      let none : a ≡ a + 0 = omega arith in
      ap (λ w. let pin : Pin = record { stripe = a; version = w } in pin ∷ map (λ i. let pin : Pin = record { stripe = i; version = v i } in pin) (range_with_len (a + 1) (length ns)))
      (ap v none ∙ same 0 (omega arith))
      ∙ ap (λ pins. pin_at stands (a, n) ∷ pins)
      (pins_in_row v (a + 1) ns (λ j less. let next : a + 1 + j ≡ a + suc j = omega arith in ap v next ∙ same (suc j) (omega (arith, less))))

  pins_of_all : (g : Shape) (versions ns : List ℕ) (size : ℕ) → 0 < stripe_length g → versions ≡ map (version_of stands) ns → length versions ≡ stripes_met (stripe_length g) 0 size →
      map (λ i. let pin : Pin = record { stripe = i; version = get_or versions i 0 } in pin) (stripes_between g 0 size) ≡ map (pin_at stands) (enumerate_from 0 ns)
  pins_of_all g versions ns size some is count =
      let whole : size - 0 ≡ size = omega arith in
      let many : length versions ≡ length ns = ap length is ∙ length-map ns (version_of stands) in
      ap (λ a. map (λ i. let pin : Pin = record { stripe = i; version = get_or versions i 0 } in pin) (range_with_len a (stripes_met (stripe_length g) 0 (size - 0)))) (zero_div (stripe_length g) some)
      ∙ ap (λ n. map (λ i. let pin : Pin = record { stripe = i; version = get_or versions i 0 } in pin) (range_with_len 0 n)) (ap (stripes_met (stripe_length g) 0) whole ∙ sym count ∙ many)
      ∙ pins_in_row (λ i. get_or versions i 0) 0 ns (λ j less. let here : 0 + j ≡ j = omega arith in ap (λ k. get_or versions k 0) here ∙ ap (λ vs. get_or vs j 0) is ∙ get_or_at (version_of stands) ns j 0 0 less)

  -- all are versions of the object's numbers, and each number's is pinned
  pins_within : (kept : List ℕ) (a : ℕ) (ns : List ℕ) → ((n : ℕ) → is_among n ns ≡ true → is_among (version_of stands n) kept ≡ true) →
      All (λ pin. IsTrue (is_among pin.version kept)) (map (pin_at stands) (enumerate_from a ns))
  pins_within kept a [] all = All-nil (λ (pin : Pin). IsTrue (is_among pin.version kept))
  pins_within kept a (n ∷ ns) all =
      All-cons (λ (pin : Pin). IsTrue (is_among pin.version kept)) (pin_at stands (a, n)) (map (pin_at stands) (enumerate_from (a + 1) ns))
      (all n (or_left (nat_eq n n) (is_among n ns) (eq-eqb n n refl))) (pins_within kept (a + 1) ns (λ m e. all m (or_right (nat_eq m n) (is_among m ns) e)))

  pinned_there : (n a : ℕ) (ns : List ℕ) → is_among n ns ≡ true → list_any (λ (pin : Pin). nat_eq (version_of stands n) pin.version) (map (pin_at stands) (enumerate_from a ns)) ≡ true
  pinned_there n a [] e = e
  pinned_there n a (m ∷ ns) e = by (or_cases (nat_eq n m) (is_among n ns) e) (pinned_there n (a + 1) ns)
    where
      by : (nat_eq n m ≡ true) ⊎ (is_among n ns ≡ true) → (is_among n ns ≡ true → list_any (λ (pin : Pin). nat_eq (version_of stands n) pin.version) (map (pin_at stands) (enumerate_from (a + 1) ns)) ≡ true) →
          (nat_eq (version_of stands n) (version_of stands m) || list_any (λ (pin : Pin). nat_eq (version_of stands n) pin.version) (map (pin_at stands) (enumerate_from (a + 1) ns))) ≡ true
      by (inl same) rest = or_left _ _ (eq-eqb (version_of stands n) (version_of stands m) (ap (version_of stands) (eqb-true n m same)))
      by (inr later) rest = or_right _ _ (rest later)

  -- ---- one look
  abbrev pub point_of : ℕ → ℕ → List ℕ × List ℕ → Point
  point_of number reader object = record { actor = actor.Client reader; number = number; note = note_of (call.Get object.0); event = Event.Pinned }

  abbrev pub looked : ℕ → ℕ → List ℕ × List ℕ → Directory → Directory
  looked number reader object d = record d { passes = look_at stands number reader object ∷ d.passes; points = d.points ++ point_of number reader object ∷ [] }

  look_made : (number reader : ℕ) (object : List ℕ × List ℕ) (d : Directory) → 0 < stripe_length d.shape → InDirectory d.shape stands d.objects object →
      (at_directory false (actor.Client reader) number (DirectoryStep.Look (note_of (call.Get object.0))) d).0 ≡ looked number reader object d
  look_made number reader object d some its =
      ap (λ (f : Option Object). (look_by (actor.Client reader) number (note_of (call.Get object.0)) d f (refusal d.max (note_of (call.Get object.0)) (option_map (λ (o : Object). o.length) f))).0) its.found
      ∙ ap (λ pins. record d { passes = record (look_at stands number reader object) { pinned = pins } ∷ d.passes; points = d.points ++ point_of number reader object ∷ [] })
      (map-map pin_of (seen_at d its.there) (stripes_between d.shape 0 its.there.length) ∙ pins_of_all d.shape its.there.versions object.1 its.there.length some its.versions its.count)

-- ---- all of them
-- what the looks lead to
pub record AreLooked (calls : Calls) (g : Shape) (max : ℕ) (stands : List ℕ) (s : State) (number : ℕ) (readers : List ℕ) (todo : Numbering) (p q : Places) : Type 0 where
  pub seen : IsSeenAs g max stands q s
  pub whole : Whole calls g max q.directory
  pub points : map_by calls max q.directory.points ≡ map_by calls max p.directory.points
  pub objects : q.directory.objects ≡ p.directory.objects
  pub versions : q.directory.versions ≡ p.directory.versions
  pub servers : q.servers ≡ p.servers
  pub tickets : AllByRecursion (Agrees q.directory) (tickets_of stands number (number + 1) readers todo)
  pub passes : (kept : List ℕ) → All (IsOfSnapshot kept) p.directory.passes → ((n : ℕ) → is_among n (all_numbers todo) ≡ true → is_among (version_of stands n) kept ≡ true) →
      All (IsOfSnapshot kept) q.directory.passes
  pub more : (v : ℕ) → is_pinned p.directory v ≡ true → is_pinned q.directory v ≡ true
  pub pinned : (n : ℕ) → is_among n (all_numbers todo) ≡ true → is_pinned q.directory (version_of stands n) ≡ true
  pub left : (token : ActorToken) → is_reader readers (actor_of token) ≡ false → Agrees p.directory token → Agrees q.directory token

-- a seat may leave numbers out
pub seat_raised : (d : Directory) (who : Actor) (n m : ℕ) → n ≤ m → MayBeginFrom d who n → MayBeginFrom d who m
seat_raised d who n m more seat = record {
  no_pass = seat.no_pass;
  numbers =
      All-weaker (λ (point : Point). IsTrue (same_actor point.actor who) → point.number < n)
      (λ (point : Point). IsTrue (same_actor point.actor who) → point.number < m) (λ point below its. let less : point.number < n = below its in omega (arith, less, more)) d.points seat.numbers;
  told = tt;
}

pub seats_raised : (stands : List ℕ) (d : Directory) (number other n m : ℕ) → n ≤ m → (readers : List ℕ) → AllByRecursion (Agrees d) (tickets_of stands number n readers []) →
    AllByRecursion (Agrees d) (tickets_of stands other m readers [])
seats_raised stands d number other n m more [] all = tt
seats_raised stands d number other n m more (reader ∷ readers) all = (seat_raised d (actor.Client reader) n m more all.0, seats_raised stands d number other n m more readers all.1)

module _ (calls : Calls) (g : Shape) (max : ℕ) (stands : List ℕ) (s : State) (some : 0 < stripe_length g) (number : ℕ) where
  abbrev Made : List ℕ → Numbering → Places → Places → Type 0
  Made readers todo p q = AreLooked calls g max stands s number readers todo p q

  -- none
  none_made : (readers : List ℕ) (p : Places) → IsSeenAs g max stands p s → Whole calls g max p.directory → AllByRecursion (Agrees p.directory) (tickets_of stands number number readers []) → Made readers [] p p
  none_made readers p seen whole seats = record {
    seen = seen;
    whole = whole;
    points = refl;
    objects = refl;
    versions = refl;
    servers = refl;
    tickets = seats_raised stands p.directory number number number (number + 1) (omega arith) readers seats;
    passes = λ kept all within. all;
    more = λ v e. e;
    pinned = λ n e. absurd (true≢false (sym e));
    left = λ token apart agrees. agrees;
  }

  -- one more before
  module _ (reader : ℕ) (readers : List ℕ) (object : List ℕ × List ℕ) (todo : Numbering) (p : Places) (seen : IsSeenAs g max stands p s) (whole : Whole calls g max p.directory)
      (seat : MayBeginFrom p.directory (actor.Client reader) number) (away : is_reader readers (actor.Client reader) ≡ false) (its : InDirectory g stands p.directory.objects object)
      (known : calls (actor.Client reader) number ≡ Some (call.Get object.0)) where
    abbrev step : DirectoryStep
    step = DirectoryStep.Look (note_of (call.Get object.0))

    -- the places after it
    abbrev pub next : Places
    next = record p { directory = looked stands number reader object p.directory }

    abbrev pass : Pass
    pass = look_at stands number reader object

    pub next_is : (at_places false (actor.Client reader) number (Act.AtDirectory (DirectoryStep.Look (note_of (call.Get object.0)))) p).0 ≡ next
    next_is =
        ap (λ d. record p { directory = d })
        (look_made stands number reader object p.directory (subst (λ shape. 0 < stripe_length shape) (sym seen.shape) some)
        (subst (λ shape. InDirectory shape stands p.directory.objects object) (sym seen.shape) its))

    may : MayBegin p.directory (actor.Client reader) number
    may = begins p.directory (actor.Client reader) number seat

    pub next_seen : IsSeenAs g max stands next s
    next_seen =
        subst (λ (q : Places). IsSeenAs g max stands q s) next_is
        (steps_are_unseen.at_directory g max stands p s false (actor.Client reader) number step some seen (may, of_client reader (call.Get object.0)) (λ e. subst IsGet e tt))

    pub next_whole : Whole calls g max next.directory
    next_whole =
        subst (λ (q : Places). Whole calls g max q.directory) next_is
        (whole_step calls g max some false (actor.Client reader) number step p.directory whole (may, of_client reader (call.Get object.0)) (call.Get object.0, known, refl))

    pub next_left : (token : ActorToken) → same_actor (actor_of token) (actor.Client reader) ≡ false → Agrees p.directory token → Agrees next.directory token
    next_left token apart agrees =
        subst (λ (q : Places). Agrees q.directory token) next_is
        (others_agree false (actor.Client reader) number step p.directory token (other_way (actor_of token) (actor.Client reader) apart) agrees)

    mine : AgreesWithPass next.directory (record { pass = pass; told = None })
    mine = record {
      reap = None;
      is_pass = ap (λ b. cond b (Some pass) (find (λ (other : Pass). same_actor (actor.Client reader) other.actor) p.directory.passes)) (self_actor (actor.Client reader));
      live = refl;
      told = tt;
      order = tt;
    }

    point_same : map_by calls max next.directory.points ≡ map_by calls max p.directory.points
    point_same =
        one_point calls max p.directory.points (point_of stands number reader object)
        ∙ ap (λ c. (applied max (map_by calls max p.directory.points) Event.Pinned c).0) known

    pub and_on : (q : Places) → Made readers todo next q → Made (reader ∷ readers) (object ∷ todo) p q
    and_on q rest = record {
      seen = rest.seen;
      whole = rest.whole;
      points = rest.points ∙ point_same;
      objects = rest.objects;
      versions = rest.versions;
      servers = rest.servers;
      tickets = (rest.left (ActorToken.InCall (record { pass = pass; told = None })) away mine, rest.tickets);
      passes = λ kept all within.
          rest.passes kept
          (All-cons (IsOfSnapshot kept) pass p.directory.passes
          (record { kind = refl; drawn = refl; alive = refl; pins = pins_within stands kept 0 object.1 (λ n e. within n (among_here n e)) }) all)
          (λ n e. within n (among_later n e));
      more = λ v e. rest.more v (or_right (pins_it v pass) (list_any (pins_it v) p.directory.passes) e);
      pinned = λ n e. by n (or_cases (is_among n object.1) (is_among n (all_numbers todo)) (sym (among_append n object.1 (all_numbers todo)) ∙ e));
      left = λ token apart agrees.
          rest.left token (apart_of (actor_of token) reader readers apart).1 (next_left token (apart_of (actor_of token) reader readers apart).0 agrees);
    }
      where
        among_here : (n : ℕ) → is_among n object.1 ≡ true → is_among n (all_numbers (object ∷ todo)) ≡ true
        among_here n e = among_append n object.1 (all_numbers todo) ∙ or_left (is_among n object.1) (is_among n (all_numbers todo)) e

        among_later : (n : ℕ) → is_among n (all_numbers todo) ≡ true → is_among n (all_numbers (object ∷ todo)) ≡ true
        among_later n e = among_append n object.1 (all_numbers todo) ∙ or_right (is_among n object.1) (is_among n (all_numbers todo)) e

        by : (n : ℕ) → (is_among n object.1 ≡ true) ⊎ (is_among n (all_numbers todo) ≡ true) → is_pinned q.directory (version_of stands n) ≡ true
        by n (inl here) =
            rest.more (version_of stands n) (or_left (pins_it (version_of stands n) pass) (list_any (pins_it (version_of stands n)) p.directory.passes) (pinned_there stands n 0 object.1 here))
        by n (inr later) = rest.pinned n later

  pub all_made : (readers : List ℕ) (todo : Numbering) (p : Places) → length todo ≤ length readers → IsDistinct nat_eq readers → IsSeenAs g max stands p s → Whole calls g max p.directory →
      AllByRecursion (Agrees p.directory) (tickets_of stands number number readers []) → AllByRecursion (InDirectory g stands p.directory.objects) todo → AreLooks calls number readers (names_of todo) →
      Made readers todo p (look_all number readers (names_of todo) p)
  unfolding IsDistinct
  all_made [] [] p few once seen whole seats its known = none_made [] p seen whole seats
  all_made [] (object ∷ todo) p few once seen whole seats its known = absurd (omega (arith, few))
  all_made (reader ∷ readers) [] p few once seen whole seats its known = none_made (reader ∷ readers) p seen whole seats
  all_made (reader ∷ readers) (object ∷ todo) p few once seen whole seats its known =
      let away : is_reader readers (actor.Client reader) ≡ false = none_among reader readers once.0 in
      let after : Places = next reader readers object todo p seen whole seats.0 away its.0 known.0 in
      subst (λ (q : Places). Made (reader ∷ readers) (object ∷ todo) p (look_all number readers (names_of todo) q)) (sym (next_is reader readers object todo p seen whole seats.0 away its.0 known.0))
      (and_on reader readers object todo p seen whole seats.0 away its.0 known.0 (look_all number readers (names_of todo) after)
      (all_made readers todo after (omega (arith, few)) once.1 (next_seen reader readers object todo p seen whole seats.0 away its.0 known.0) (next_whole reader readers object todo p seen whole seats.0 away its.0 known.0)
      (tickets_kept stands number number p.directory after.directory (actor.Client reader)
      (λ token apart agrees. next_left reader readers object todo p seen whole seats.0 away its.0 known.0 token (other_way (actor.Client reader) (actor_of token) apart) agrees) readers [] away seats.1)
      its.1 known.1))
