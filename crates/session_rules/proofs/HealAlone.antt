-- A heal: rebuilds of lost chunks, one after another.
use Rattle.std.proofs.Common.{◌≡◌, ℕ, zero, suc, ◌+◌, ◌<◌, ◌≤◌, nat_eq, Bool, true, false, not, cond, List, [], ◌∷◌, length, get_or, map, filter, take, fold, replicate, slice_get, Some, option_map, unwrap_or, bytes_eq, refl, sym, ap, subst, ◌∙◌, arith, if◌then◌else◌}
use Rattle.std.specs.List.{AllByRecursion}
use Rattle.std.proofs.lemmas.Bool.{eq-eqb, eqb-true, le-ltb, lt-ltb, ltb-false, true≢false}
use Rattle.std.proofs.lemmas.Option.{same_Some, none-some}
use Rattle.std.proofs.lemmas.List.{length-map, get_or-map as get_or_at}
use Rattle.clay_grid.specs.Shape.{Shape, chunk_count, stripe_length}
use Rattle.store_map.specs.declared.actor.Actor.{Actor}
use Rattle.store_map.specs.declared.actor.Actor.TheVariants as actor
use Rattle.store_map.specs.declared.reply.Reply.TheVariants as reply
use Rattle.store_core.specs.Lists.{change_at}
use Rattle.store_core.specs.Conditions.{MayBegin}
use Rattle.store_core.specs.Directory.{Object}
use Rattle.store_core.specs.Lookups.{find_object}
use Rattle.store_core.specs.Step.{Places}
use Rattle.session_rules.specs.State.{Chunk, Stripe, State as Session, numbers_of, chunk_at}
use Rattle.session_rules.specs.declared.session_answer.LostChunk.{LostChunk}
use Rattle.session_rules.specs.declared.session_answer.Answer.{Answer}
use Rattle.session_rules.specs.Gathered.{holds, lacking, is_beyond_repair, named}
use Rattle.session_rules.specs.Rebuilds.{place_anew, rebuild, rebuild_one}
use Rattle.session_rules.specs.Heals.{lost_chunks, number_of, to_heal, heal_one, heal_all}
use Rattle.session_rules.specs.Seen.{version_of, IsSeenAs, IsQuiet}
use Rattle.session_rules.specs.Sweeps.{KeepsPinned}
use Rattle.session_rules.specs.AloneRebuilds.{IsRebuiltAs}
use Rattle.session_rules.specs.AloneHeals.{rebuild_of, AreRebuilt, IsHealedAs, HealsAreServed}
use Rattle.session_rules.proofs.Counting.{everyone}
use Rattle.session_rules.proofs.Names.{under, under_objects, under_map, is_some_by}
use Rattle.session_rules.proofs.Singles.{found_name}
use Rattle.session_rules.proofs.PlacedAnew.{changed_here, changed_elsewhere}
use Rattle.session_rules.proofs.RebuildAlone.{rebuilds_are_served}
use Rattle.session_rules.proofs.Pairs.{Pairs, every_weaker, every_both, every_filter, every_kept, every_take, pairs_with, pairs_filter, pairs_take}
use Rattle.session_rules.proofs.LostChunks.{IsLost, AreApart, lost_all, lost_apart}

cases : {P : Type 0} (b : Bool) → (b ≡ true → P) → (b ≡ false → P) → P
cases true t f = t refl
cases false t f = f refl

-- ---- a stripe of which a chunk was placed anew
held_stays : (target j epoch : ℕ) (stripe : Stripe) → (chunk_at stripe j).held ≡ true → (chunk_at (change_at target (λ chunk. record { placed = epoch; held = true }) stripe) j).held ≡ true
held_stays target j epoch [] e = e
held_stays zero zero epoch (x ∷ stripe) e = refl
held_stays zero (suc j) epoch (x ∷ stripe) e = e
held_stays (suc target) zero epoch (x ∷ stripe) e = e
held_stays (suc target) (suc j) epoch (x ∷ stripe) e = held_stays target j epoch stripe e

-- a test that passes less keeps fewer
fewer_kept : (p q : ℕ → Bool) → ((n : ℕ) → p n ≡ true → q n ≡ true) → (xs : List ℕ) → length (filter p xs) ≤ length (filter q xs)
fewer_kept p q so [] = omega arith
fewer_kept p q so (x ∷ xs) = by (p x) (q x) (so x) (fewer_kept p q so xs)
  where
    by : (a b : Bool) → (a ≡ true → b ≡ true) → length (filter p xs) ≤ length (filter q xs) → length (cond a (x ∷ filter p xs) (filter p xs)) ≤ length (cond b (x ∷ filter q xs) (filter q xs))
    by true true so rest = omega (arith, rest)
    by true false so rest = absurd (true≢false (sym (so refl)))
    by false true so rest = omega (arith, rest)
    by false false so rest = rest

fewer_lack : (g : Shape) (target epoch : ℕ) (stripe : Stripe) → is_beyond_repair g stripe ≡ false → is_beyond_repair g (change_at target (λ chunk. record { placed = epoch; held = true }) stripe) ≡ false
fewer_lack g target epoch stripe e =
    let few : length (lacking stripe (everyone g)) ≤ g.parity_count = ltb-false g.parity_count (length (lacking stripe (everyone g))) e in
    let fewer : length (lacking (change_at target (λ chunk. record { placed = epoch; held = true }) stripe) (everyone g)) ≤ length (lacking stripe (everyone g)) =
    fewer_kept (λ n. not (holds (change_at target (λ chunk. record { placed = epoch; held = true }) stripe) n)) (λ n. not (holds stripe n)) so (everyone g) in
    le-ltb g.parity_count (length (lacking (change_at target (λ chunk. record { placed = epoch; held = true }) stripe) (everyone g))) (omega (arith, few, fewer))
  where
    so : (n : ℕ) → not (holds (change_at target (λ chunk. record { placed = epoch; held = true }) stripe) n) ≡ true → not (holds stripe n) ≡ true
    so n lacks = cases (holds stripe n) (λ t. absurd (true≢false (sym lacks ∙ ap not (held_stays target n epoch stripe t)))) (λ f. ap not f)

-- an object that is found stands at a place
found_at : (name : List ℕ) (objects : List Object) (object : Object) → find_object name objects ≡ Some object → (i : ℕ) × (slice_get objects i ≡ Some object)
found_at name [] object e = absurd (none-some object e)
found_at name (other ∷ objects) object e = by (bytes_eq name other.name) e (found_at name objects object)
  where
    by : (b : Bool) → cond b (Some other) (find_object name objects) ≡ Some object → (find_object name objects ≡ Some object → (i : ℕ) × (slice_get objects i ≡ Some object)) → (i : ℕ) × (slice_get (other ∷ objects) i ≡ Some object)
    by true e rest = (0, e)
    by false e rest = let later : (i : ℕ) × (slice_get objects i ≡ Some object) = rest e in (suc later.0, later.1)

-- ---- the seat's next number is seen by no place
pub with_next : (g : Shape) (max : ℕ) (stands : List ℕ) (p : Places) (s : Session) (n : ℕ) → IsSeenAs g max stands p s → IsSeenAs g max stands p (record s { next = n })
with_next g max stands p s n seen = record {
  shape = seen.shape;
  most = seen.most;
  sound = seen.sound;
  servers = seen.servers;
  present = seen.present;
  epochs = seen.epochs;
  lengths = seen.lengths;
  versions = seen.versions;
  count = seen.count;
  stripes = seen.stripes;
  apart = seen.apart;
  timely = seen.timely;
  names = seen.names;
}

pub quiet_next : (stands : List ℕ) (p : Places) (s : Session) (n : ℕ) → IsQuiet stands p s → IsQuiet stands p (record s { next = n })
quiet_next stands p s n quiet = record { passes = quiet.passes; clean = quiet.clean; held = quiet.held; standing = quiet.standing }

module _ (g : Shape) (max tries : ℕ) (stands : List ℕ) (seat : ℕ) (some : 0 < stripe_length g) (parity : 0 < g.parity_count) where
  abbrev who : Actor
  who = actor.Repairer seat

  -- a lost chunk that can be made anew
  pub record Ready (s : Session) (chunk : LostChunk) : Type 0 where
    pub within : chunk.stripe < length (numbers_of chunk.name s.numbers)
    pub server : chunk.server < chunk_count g
    pub lacks : holds (get_or s.stripes (number_of g s chunk) []) chunk.server ≡ false
    pub fixable : is_beyond_repair g (get_or s.stripes (number_of g s chunk) []) ≡ false

  -- two chunks of different stripes or of different servers
  abbrev pub AreTwo : Session → LostChunk → LostChunk → Type 0
  AreTwo s c e = number_of g s c ≡ number_of g s e → c.server ≡ e.server → ⊥

  -- the state in which one was made anew, and its stripe then
  abbrev state_with : Session → LostChunk → Session
  state_with s c = place_anew (number_of g s c) c.server s

  abbrev stripe_with : Session → LostChunk → Stripe → Stripe
  stripe_with s c stripe = change_at c.server (λ chunk. record { placed = get_or s.epochs c.server 0; held = true }) stripe

  -- ---- the others are as lost as before
  pub still_ready : (s : Session) (c e : LostChunk) → Ready s e × AreTwo s c e → Ready (place_anew (number_of g s c) c.server s) e
  still_ready s c e h = cases (nat_eq (number_of g s e) (number_of g s c)) here elsewhere
    where
      here : nat_eq (number_of g s e) (number_of g s c) ≡ true → Ready (place_anew (number_of g s c) c.server s) e
      here is =
          let same : number_of g s e ≡ number_of g s c = eqb-true (number_of g s e) (number_of g s c) is in
          let now : get_or (change_at (number_of g s c) (stripe_with s c) s.stripes) (number_of g s e) [] ≡ stripe_with s c (get_or s.stripes (number_of g s e) []) =
          ap (λ n. get_or (change_at (number_of g s c) (stripe_with s c) s.stripes) n []) same ∙ changed_here (number_of g s c) (stripe_with s c) refl s.stripes ∙ ap (λ n. stripe_with s c (get_or s.stripes n [])) (sym same) in
          record {
            within = h.0.within;
            server = h.0.server;
            lacks =
                ap (λ stripe. holds stripe e.server) now
                ∙ ap (λ (chunk : Chunk). chunk.held)
                (changed_elsewhere c.server e.server (λ chunk. record { placed = get_or s.epochs c.server 0; held = true }) (record { placed = 0; held = false }) (get_or s.stripes (number_of g s e) []) (λ server. h.1 (sym same) (sym server)))
                ∙ h.0.lacks;
            fixable = ap (is_beyond_repair g) now ∙ fewer_lack g c.server (get_or s.epochs c.server 0) (get_or s.stripes (number_of g s e) []) h.0.fixable;
          }

      elsewhere : nat_eq (number_of g s e) (number_of g s c) ≡ false → Ready (place_anew (number_of g s c) c.server s) e
      elsewhere is =
          let now : get_or (change_at (number_of g s c) (stripe_with s c) s.stripes) (number_of g s e) [] ≡ get_or s.stripes (number_of g s e) [] =
          changed_elsewhere (number_of g s c) (number_of g s e) (stripe_with s c) [] s.stripes (λ same. true≢false (sym (eq-eqb (number_of g s e) (number_of g s c) same) ∙ is)) in
          record {
            within = h.0.within;
            server = h.0.server;
            lacks = ap (λ stripe. holds stripe e.server) now ∙ h.0.lacks;
            fixable = ap (is_beyond_repair g) now ∙ h.0.fixable;
          }

  -- ---- some chunks one after another
  record Heals (chunks : List LostChunk) (number : ℕ) (p : Places) (s to : Session) : Type 0 where
    after : Places
    rebuilt : AreRebuilt g tries who number chunks p after
    seen : IsSeenAs g max stands after to
    quiet : IsQuiet stands p s → IsQuiet stands after to
    pinned : KeepsPinned stands p s → KeepsPinned stands after to
    next : MayBegin after.directory who (number + length chunks)

  -- the session makes such a chunk anew
  pub rebuilds : (s : Session) (c : LostChunk) → Ready s c → rebuild g c.stripe c.server s (numbers_of c.name s.numbers) ≡ (place_anew (number_of g s c) c.server s, Answer.Rebuilt)
  rebuilds s c ready =
      let n : ℕ = number_of g s c in
      let chunks : Stripe = get_or s.stripes (number_of g s c) [] in
      let out : Session × Answer = (s, Answer.Unavailable c.stripe (named g s.epochs chunks chunks (c.server ∷ []))) in
      let made : Session × Answer = (place_anew n c.server s, Answer.Rebuilt) in
      ap (λ b. let r : Session × Answer = if b then rebuild_one g c.stripe c.server s n chunks else (s, Answer.Replied reply.NoSuch) in r) (lt-ltb c.stripe (length (numbers_of c.name s.numbers)) ready.within)
      ∙ ap (λ b. let r : Session × Answer = if b then (s, Answer.Here) else (if is_beyond_repair g chunks then out else made) in r) ready.lacks
      ∙ ap (λ b. let r : Session × Answer = if b then out else made in r) ready.fixable

  run : (chunks : List LostChunk) (number : ℕ) (p : Places) (s : Session) (taken : List ℕ) → IsSeenAs g max stands p s → MayBegin p.directory who number → AllByRecursion (Ready s) chunks → Pairs (AreTwo s) chunks →
      Heals chunks number p s (fold (heal_one g) (s, taken) chunks).0
  run [] number p s taken h begin ready two = record {
    after = p;
    rebuilt = refl;
    seen = h;
    quiet = λ quiet. quiet;
    pinned = λ pinned. pinned;
    next = let same : number + 0 ≡ number = omega arith in subst (MayBegin p.directory who) (sym same) begin;
  }
  run (c ∷ chunks) number p s taken h begin ready two = by (run chunks)
    where
      did : IsRebuiltAs g max tries who number (rebuild_of c) stands p s (place_anew (number_of g s c) c.server s, Answer.Rebuilt)
      did =
          subst (IsRebuiltAs g max tries who number (rebuild_of c) stands p s) (rebuilds s c ready.0)
          (rebuilds_are_served g max tries stands p s who number (rebuild_of c) some parity ready.0.server h begin refl)

      others : AllByRecursion (Ready (state_with s c)) chunks
      others = every_weaker (λ e. Ready s e × AreTwo s c e) (Ready (state_with s c)) (still_ready s c) chunks (every_both (Ready s) (AreTwo s c) chunks ready.1 two.0)

      by : ((number : ℕ) (p : Places) (s : Session) (taken : List ℕ) → IsSeenAs g max stands p s → MayBegin p.directory who number → AllByRecursion (Ready s) chunks → Pairs (AreTwo s) chunks →
          Heals chunks number p s (fold (heal_one g) (s, taken) chunks).0) →
          Heals (c ∷ chunks) number p s (fold (heal_one g) (s, taken) (c ∷ chunks)).0
      by go =
          let rest : Heals chunks (number + 1) did.after (state_with s c) (fold (heal_one g) ((state_with s c), (heal_one g (s, taken) c).1) chunks).0 = go (number + 1) did.after (state_with s c) (heal_one g (s, taken) c).1 did.seen did.next others two.1 in
          record {
            after = rest.after;
            rebuilt = (did.after, did.ends, rest.rebuilt);
            seen = rest.seen;
            quiet = λ quiet. rest.quiet (did.quiet quiet);
            pinned = λ pinned. rest.pinned (did.pinned pinned);
            next = let same : number + 1 + length chunks ≡ number + length (c ∷ chunks) = omega arith in subst (MayBegin rest.after.directory who) same rest.next;
          }

  -- ---- those that a heal makes anew
  module _ (p : Places) (s : Session) (h : IsSeenAs g max stands p s) where
    -- a lost chunk of an object that is there
    its_object : (c : LostChunk) → (lost : IsLost g s h.names c) → (object : Object) × (find_object c.name p.directory.objects ≡ Some object) × (object.versions ≡ map (version_of stands) lost.numbers)
    its_object c lost =
        is_some_by (λ (object : Object). object.versions) (find_object c.name p.directory.objects) (map (version_of stands) lost.numbers)
        (sym (under_objects (λ (object : Object). object.versions) c.name p.directory.objects) ∙ ap (under c.name) h.versions ∙ under_map (map (version_of stands)) c.name s.numbers
        ∙ ap (option_map (map (version_of stands))) lost.of_name)

    number_is : (c : LostChunk) → (lost : IsLost g s h.names c) → number_of g s c ≡ get_or lost.numbers c.stripe 0
    number_is c lost = ap (λ f. get_or (unwrap_or f []) c.stripe 0) lost.of_name

    -- chunks of one number are of one stripe
    two_by_number : (c e : LostChunk) → IsLost g s h.names c → IsLost g s h.names e → AreApart g s h.names c e → AreTwo s c e
    two_by_number c e lost also apart same server =
        apart (sym (found_name c.name p.directory.objects one.0 one.1) ∙ ap (λ (o : Object). o.name) one_object ∙ found_name e.name p.directory.objects two.0 two.1) places.1 server
      where
        one : (object : Object) × (find_object c.name p.directory.objects ≡ Some object) × (object.versions ≡ map (version_of stands) lost.numbers)
        one = its_object c lost

        two : (object : Object) × (find_object e.name p.directory.objects ≡ Some object) × (object.versions ≡ map (version_of stands) also.numbers)
        two = its_object e also

        first : (i : ℕ) × (slice_get p.directory.objects i ≡ Some one.0)
        first = found_at c.name p.directory.objects one.0 one.1

        second : (i : ℕ) × (slice_get p.directory.objects i ≡ Some two.0)
        second = found_at e.name p.directory.objects two.0 two.1

        version_there : (object : Object) (numbers : List ℕ) (i : ℕ) → object.versions ≡ map (version_of stands) numbers → i < length numbers → get_or object.versions i 0 ≡ version_of stands (get_or numbers i 0)
        version_there object numbers i is less = ap (λ versions. get_or versions i 0) is ∙ get_or_at (version_of stands) numbers i 0 0 less

        within : (object : Object) (numbers : List ℕ) (i : ℕ) → object.versions ≡ map (version_of stands) numbers → i < length numbers → i < length object.versions
        within object numbers i is less = let many : length object.versions ≡ length numbers = ap length is ∙ length-map numbers (version_of stands) in omega (arith, many, less)

        one_version : get_or one.0.versions c.stripe 0 ≡ get_or two.0.versions e.stripe 0
        one_version =
            version_there one.0 lost.numbers c.stripe one.2 lost.within
            ∙ ap (version_of stands) (sym (number_is c lost) ∙ same ∙ number_is e also)
            ∙ sym (version_there two.0 also.numbers e.stripe two.2 also.within)

        places : (first.0 ≡ second.0) × (c.stripe ≡ e.stripe)
        places =
            h.sound.once first.0 second.0 c.stripe e.stripe one.0 two.0 first.1 second.1 (within one.0 lost.numbers c.stripe one.2 lost.within) (within two.0 also.numbers e.stripe two.2 also.within) one_version

        one_object : one.0 ≡ two.0
        one_object = same_Some one.0 two.0 (sym first.1 ∙ ap (slice_get p.directory.objects) places.0 ∙ second.1)

    abbrev can : LostChunk → Bool
    can chunk = not (is_beyond_repair g (get_or s.stripes (number_of g s chunk) []))

    ready_of : (c : LostChunk) → IsLost g s h.names c × (can c ≡ true) → Ready s c
    ready_of c h =
        let lost : IsLost g s _ c = h.0 in
        record {
          within = subst (λ f. c.stripe < length (unwrap_or f [])) (sym lost.of_name) lost.within;
          server = lost.server;
          lacks = ap (λ n. holds (get_or s.stripes n []) c.server) (number_is c lost) ∙ lost.lacks;
          fixable = turned (is_beyond_repair g (get_or s.stripes (number_of g s c) [])) h.1;
        }
      where
        turned : (b : Bool) → not b ≡ true → b ≡ false
        turned true e = absurd (true≢false (sym e))
        turned false e = refl

    pub all_ready : AllByRecursion (Ready s) (to_heal g s)
    all_ready =
        every_weaker (λ c. IsLost g s h.names c × (can c ≡ true)) (Ready s) ready_of (to_heal g s)
        (every_both (IsLost g s h.names) (λ c. can c ≡ true) (to_heal g s) (every_filter (IsLost g s h.names) can (lost_chunks g s) (lost_all g s h.names)) (every_kept can (lost_chunks g s)))

    pub all_two : Pairs (AreTwo s) (to_heal g s)
    all_two = pairs_filter (AreTwo s) can (lost_chunks g s) (pairs_with (IsLost g s h.names) (AreApart g s h.names) (AreTwo s) two_by_number (lost_chunks g s) (lost_all g s h.names) (lost_apart g s h.names))

    healed : (count : ℕ) → MayBegin p.directory who s.next → IsHealedAs g max tries seat count stands p s
    healed count begin =
        let chunks : List LostChunk = take count (to_heal g s) in
        let made : Heals chunks s.next p s (heal_all g (take count (to_heal g s)) s).0 =
        run (take count (to_heal g s)) s.next p s (replicate (chunk_count g) 0) h begin (every_take (Ready s) count (to_heal g s) all_ready) (pairs_take (AreTwo s) count (to_heal g s) all_two) in
        record {
          after = made.after;
          rebuilt = made.rebuilt;
          seen = with_next g max stands made.after (heal_all g chunks s).0 (s.next + length chunks) made.seen;
          quiet = λ quiet. quiet_next stands made.after (heal_all g chunks s).0 (s.next + length chunks) (made.quiet quiet);
          pinned = λ pinned n live. made.pinned pinned n live;
          next = made.next;
        }

-- all of a list are as many as it has
take_all : {X : Type 0} (xs : List X) → take (length xs) xs ≡ xs
take_all [] = refl
take_all (x ∷ xs) = ap (λ l. x ∷ l) (take_all xs)

pub heals_are_served : HealsAreServed
heals_are_served = record {
  begun = λ g max tries seat count stands p s some parity h begin. healed g max tries stands seat some parity p s h count begin;
  ended = λ g s lasts.
      ap (λ b. (let chunks : List LostChunk = to_heal g s in
      let r : Session × Answer = if b then (record ((heal_all g chunks s).0) { next = s.next + length chunks }, Answer.Healed (length chunks) (heal_all g chunks s).1) else (s, Answer.BadRequest) in r).0) lasts
      ∙ ap (λ chunks. let t : Session = record ((heal_all g chunks s).0) { next = s.next + length chunks } in t) (sym (take_all (to_heal g s)));
}
