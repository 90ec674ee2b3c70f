-- A snapshot whose taking was cut off: the passes of the looks that were made have ended again.
use Rattle.std.proofs.Common.{◌≡◌, ℕ, zero, suc, ◌+◌, ◌<◌, ◌≤◌, nat_lt, Bool, true, false, List, [], ◌∷◌, length, map, take, Option, None, Some, All, IfSome, IsTrue, refl, sym, ap, subst, ◌∙◌, arith, if◌then◌else◌, nat_eq}
use Rattle.std.specs.List.{AllByRecursion, IsDistinct}
use Rattle.std.proofs.lemmas.Bool.{true≢false}
use Rattle.std.proofs.lemmas.List.{length-map}
use Rattle.std.proofs.lemmas.List.Elements.{All-nil}
use Rattle.clay_grid.specs.Shape.{Shape, stripe_length}
use Rattle.store_map.specs.Laws.{names_of}
use Rattle.store_map.specs.declared.actor.Actor.{Actor}
use Rattle.store_map.specs.declared.actor.Actor.TheVariants as actor
use Rattle.store_map.specs.declared.reply.Reply.TheVariants as reply
use Rattle.store_core.specs.Lookups.{pass_of, first_garbage}
use Rattle.store_core.specs.Agreement.{ActorToken, AreBelow, Agrees}
use Rattle.store_core.specs.Calls.{Calls}
use Rattle.store_core.specs.Server.{Server}
use Rattle.store_core.specs.Step.{Places}
use Rattle.run_laws.specs.MapAfter.{map_by}
use Rattle.store_core.specs.Lists.{is_among}
use Rattle.session_rules.specs.State.{Numbering, Snapshot, State}
use Rattle.session_rules.specs.declared.session_answer.Answer.{Answer}
use Rattle.session_rules.specs.declared.request.Request.{Request}
use Rattle.session_rules.specs.Snapshots.{most_objects, snap}
use Rattle.session_rules.specs.Seen.{version_of, snapshot_numbers, live_numbers, IsOfSnapshot, IsAtRest, IsQuiet}
use Rattle.session_rules.proofs.Pairs.{every_take}
use Rattle.session_rules.proofs.Whole.{map_of}
use Rattle.session_rules.specs.Seats.{MayBeginFrom}
use Rattle.session_rules.specs.Readers.{is_reader, kept_numbers, tickets_of, StandForBytes}
use Rattle.session_rules.specs.Between.{Seats, IsBetween}
use Rattle.session_rules.specs.AloneSnapshots.{look_all, end_all}
use Rattle.session_rules.specs.Serving.{AreLooks, MayBeAsked}
use Rattle.session_rules.specs.AnsweredRuns.{IsSnapCut}
use Rattle.session_rules.proofs.LooksMade.{InDirectory, AreLooked, all_in_directory}
use Rattle.session_rules.proofs.PassesEnded.{AreEnded, all_ended, none_left}
use Rattle.session_rules.proofs.Readers.{client_apart, unused_of}
use Rattle.session_rules.proofs.SnapsDropped.{nobody}
use Rattle.session_rules.proofs.SnapsServed.{lengths_named, next_seats, nothing_taken, seats_free, made, points_same, few_numbers, snap_is}

cases : {P : Type 0} (b : Bool) → (b ≡ true → P) → (b ≡ false → P) → P
cases true t f = t refl
cases false t f = f refl

options : {X P : Type 0} (found : Option X) → (found ≡ None → P) → ((x : X) → found ≡ Some x → P) → P
options None none some = none refl
options (Some x) none some = some x refl

-- ---- the first so many
names_taken : (n : ℕ) (numbers : Numbering) → names_of (take n numbers) ≡ take n (names_of numbers)
names_taken zero numbers = refl
names_taken (suc n) [] = refl
names_taken (suc n) (object ∷ numbers) = ap (λ names. object.0 ∷ names) (names_taken n numbers)

looks_taken : (calls : Calls) (number n : ℕ) (readers : List ℕ) (names : List (List ℕ)) → AreLooks calls number readers names → AreLooks calls number readers (take n names)
looks_taken calls number n [] names known = tt
looks_taken calls number zero (reader ∷ readers) names known = tt
looks_taken calls number (suc n) (reader ∷ readers) [] known = tt
looks_taken calls number (suc n) (reader ∷ readers) (name ∷ names) known = (known.0, looks_taken calls number n readers names known.1)

fewer : {X : Type 0} (n : ℕ) (xs : List X) → length (take n xs) ≤ length xs
fewer zero xs = omega arith
fewer (suc n) [] = omega arith
fewer (suc n) (x ∷ xs) = let less : length (take n xs) ≤ length xs = fewer n xs in omega (arith, less)

module _ (calls : Calls) (g : Shape) (max tries : ℕ) (seats : Seats) (stands : List ℕ) (p : Places) (s : State) (some : 0 < stripe_length g) (h : IsBetween calls g max seats stands p s) where
  module _ (none : s.snapshot ≡ None) (small : nat_lt most_objects (length s.objects) ≡ false) (known : AreLooks calls seats.looks seats.readers (names_of s.objects)) (count : ℕ) where
    abbrev todo : Numbering
    todo = take count s.numbers

    few : length (take count s.numbers) ≤ length seats.readers
    few =
        let all : length s.numbers ≤ length seats.readers = few_numbers calls g max tries seats stands p s some h small in
        let some_of : length (take count s.numbers) ≤ length s.numbers = fewer count s.numbers in
        omega (arith, all, some_of)

    there : AllByRecursion (InDirectory g stands p.directory.objects) (take count s.numbers)
    there = every_take (InDirectory g stands p.directory.objects) count s.numbers (all_in_directory g max stands p s h.seen)

    names_are : names_of (take count s.numbers) ≡ take count (names_of s.objects)
    names_are = names_taken count s.numbers ∙ ap (take count) (sym (lengths_named g max stands p s h.seen))

    its : AreLooks calls seats.looks seats.readers (names_of (take count s.numbers))
    its = subst (AreLooks calls seats.looks seats.readers) (sym names_are) (looks_taken calls seats.looks count seats.readers (names_of s.objects) known)

    abbrev q : Places
    q = look_all seats.looks seats.readers (names_of (take count s.numbers)) p

    abbrev r : Places
    r = end_all seats.looks (take (length (take count s.numbers)) seats.readers) q

    looks : AreLooked calls g max stands s seats.looks seats.readers (take count s.numbers) p q
    looks = made calls g max tries seats stands p s some h none (take count s.numbers) few there its

    distinct : IsDistinct nat_eq seats.readers
    unfolding IsDistinct
    distinct = h.readers.once.1

    ended : AreEnded calls g max stands s seats.looks (seats.looks + 1) seats.readers q r
    ended =
        all_ended calls g max stands s some seats.looks (seats.looks + 1) (omega arith) seats.looks seats.readers (take count s.numbers) q distinct looks.seen looks.whole looks.tickets

    -- ---- nobody has a pass, before and after
    seat_left_so : (who : Actor) (unused : ℕ) → is_reader seats.readers who ≡ false → MayBeginFrom p.directory who unused → MayBeginFrom r.directory who unused
    seat_left_so who unused apart seat =
        ended.left (ActorToken.Seated (record { actor = who; unused = unused; told = None })) apart (looks.left (ActorToken.Seated (record { actor = who; unused = unused; told = None })) apart seat)

    others : (who : Actor) → is_reader seats.readers who ≡ false → pass_of who r.directory ≡ None
    others who apart =
        let n : (n : ℕ) × AreBelow who n p.directory.points = unused_of who p.directory.points in
        (seat_left_so who n.0 apart (record { no_pass = h.snapshot.others who apart; numbers = n.1; told = tt })).no_pass

    no_passes : r.directory.passes ≡ []
    no_passes = none_left r.directory (nobody stands r.directory seats.looks (seats.looks + 1) seats.readers ended.seats others)

    no_passes_before : p.directory.passes ≡ []
    no_passes_before =
        none_left p.directory (nobody stands p.directory seats.looks seats.looks seats.readers (seats_free calls g max tries seats stands p s some h none (take count s.numbers) few there its) h.snapshot.others)

    versions_same : r.directory.versions ≡ p.directory.versions
    versions_same = ended.versions ∙ looks.versions

    servers_same : r.servers ≡ p.servers
    servers_same = ended.servers ∙ looks.servers

    quiet : IsQuiet stands r s
    quiet = record {
      passes = subst (λ passes. All (IsOfSnapshot (map (version_of stands) (snapshot_numbers s.snapshot))) passes) (sym no_passes) (All-nil (IsOfSnapshot (map (version_of stands) (snapshot_numbers s.snapshot))));
      clean =
          ap (λ versions. first_garbage (record (p.directory) { versions = versions; passes = r.directory.passes })) versions_same
          ∙ ap (λ passes. first_garbage (record (p.directory) { passes = passes })) (no_passes ∙ sym no_passes_before) ∙ h.quiet.clean;
      held = subst (λ servers. All (λ (server : Server). All (λ version. IsTrue (is_among version (map (version_of stands) (live_numbers s)))) server.held) servers) (sym servers_same) h.quiet.held;
      standing = subst (λ versions. All IsAtRest versions) (sym versions_same) h.quiet.standing;
    }

    cut_between : IsBetween calls g max (next_seats calls g max tries seats stands p s some h) stands r s
    cut_between = record {
      seen = ended.seen;
      pinned = λ n e. absurd (true≢false (sym (ap (λ snapshot. is_among n (snapshot_numbers snapshot)) (sym none) ∙ e)));
      quiet = quiet;
      its_map = map_of calls g max r s ended.whole (ap (map_by calls max) ended.points ∙ points_same calls g max tries seats stands p s some h none (take count s.numbers) few there its);
      client = seat_left_so (actor.Client seats.client) seats.calls (client_apart seats.client seats.readers h.readers) h.client;
      repairer = seat_left_so (actor.Repairer seats.repairer) seats.rebuilds refl h.repairer;
      healer = seat_left_so (actor.Repairer seats.healer) s.next refl h.healer;
      apart = h.apart;
      readers = h.readers;
      snapshot = record {
        number = seats.looks;
        used = subst (λ snapshot. IfSome snapshot (λ kept. seats.looks < seats.looks + 1)) (sym none) tt;
        few = subst (λ snapshot. length (kept_numbers snapshot) ≤ length seats.readers) (sym none) (omega arith);
        tickets = subst (λ snapshot. AllByRecursion (Agrees r.directory) (tickets_of stands seats.looks (seats.looks + 1) seats.readers (kept_numbers snapshot))) (sym none) ended.seats;
        others = others;
        bytes = subst (StandForBytes calls g stands r.directory) (sym none) tt;
      };
    }

    cut_is : end_all seats.looks (take (length (take count (names_of s.objects))) seats.readers) (look_all seats.looks seats.readers (take count (names_of s.objects)) p) ≡ r
    cut_is =
        ap (λ names. end_all seats.looks (take (length names) seats.readers) (look_all seats.looks seats.readers names p)) (sym names_are)
        ∙ ap (λ n. end_all seats.looks (take n seats.readers) q) (length-map (take count s.numbers) (λ (object : List ℕ × List ℕ). object.0))

  pub snap_cut : MayBeAsked calls g seats s Request.Snap → (after : Places) → IsSnapCut seats s (snap s.snapshot s).1 p after → IsBetween calls g max (next_seats calls g max tries seats stands p s some h) stands after s
  snap_cut may after cut = options s.snapshot closed open_one
    where
      as_it_was : after ≡ p → IsBetween calls g max (next_seats calls g max tries seats stands p s some h) stands after s
      as_it_was same = subst (λ (q : Places). IsBetween calls g max (next_seats calls g max tries seats stands p s some h) stands q s) (sym same) (nothing_taken calls g max tries seats stands p s some h)

      open_one : (other : Snapshot) → s.snapshot ≡ Some other → IsBetween calls g max (next_seats calls g max tries seats stands p s some h) stands after s
      open_one other e = as_it_was (subst (λ found. IsSnapCut seats s (snap found s).1 p after) e cut)

      closed : s.snapshot ≡ None → IsBetween calls g max (next_seats calls g max tries seats stands p s some h) stands after s
      closed none = cases (nat_lt most_objects (length s.objects)) many small
        where
          many : nat_lt most_objects (length s.objects) ≡ true → IsBetween calls g max (next_seats calls g max tries seats stands p s some h) stands after s
          many e =
              as_it_was
              (subst (λ (served : State × Answer). IsSnapCut seats s served.1 p after)
              (ap (λ found. snap found s) none
              ∙ ap (λ b. let r : State × Answer = if b then (s, Answer.TooMany (length s.objects)) else (record s { snapshot = Some (record { objects = s.objects; numbers = s.numbers; stripes = s.stripes }) }, Answer.Replied reply.Done) in r) e) cut)

          small : nat_lt most_objects (length s.objects) ≡ false → IsBetween calls g max (next_seats calls g max tries seats stands p s some h) stands after s
          small e =
              let it : IsSnapCut seats s (Answer.Replied reply.Done) p after =
              subst (λ (served : State × Answer). IsSnapCut seats s served.1 p after) (snap_is calls g max tries seats stands p s some h none e) cut in
              let known : AreLooks calls seats.looks seats.readers (names_of s.objects) = may (ap (λ (served : State × Answer). served.1) (snap_is calls g max tries seats stands p s some h none e)) in
              subst (λ (q : Places). IsBetween calls g max (next_seats calls g max tries seats stands p s some h) stands q s) (sym (it.1 ∙ cut_is none e known it.0)) (cut_between none e known it.0)
