-- What a read of the snapshot that is open gathers is what its looks pinned.
use Rattle.std.proofs.Common.{◌≡◌, ℕ, zero, suc, ◌+◌, ◌-◌, ◌*◌, ◌/◌, ◌<◌, min, Bool, true, false, cond, if◌then◌else◌, List, [], ◌∷◌, length, map, get_or, take, drop, bytes_eq, Option, Some, option_map, unwrap_or, All, refl, sym, ap, subst, ◌∙◌, arith}
use Rattle.std.specs.List.{AllByRecursion, enumerate_from, range_with_len}
use Rattle.std.proofs.lemmas.Option.{same_Some, none-some}
use Rattle.std.proofs.lemmas.List.{length-map}
use Rattle.std.proofs.lemmas.List.Elements.{All-head, All-tail}
use Rattle.std.proofs.lemmas.Simd.{map-map}
use Rattle.clay_grid.specs.Shape.{Shape, stripe_length}
use Rattle.store_map.specs.Laws.{names_of}
use Rattle.store_map.specs.PlainMap.{bytes_of}
use Rattle.store_map.specs.declared.actor.Actor.{Actor}
use Rattle.store_map.specs.declared.actor.Actor.TheVariants as actor
use Rattle.store_map.specs.declared.placement.Placement.{Placement}
use Rattle.store_map.specs.declared.placement.Placement.TheVariants as placement
use Rattle.store_core.specs.Agreement.{ActorToken, Agrees}
use Rattle.store_core.specs.Directory.{Pin, Pass, Directory}
use Rattle.store_core.specs.Gathering.{Part}
use Rattle.store_core.specs.Look.{pin_of}
use Rattle.store_core.specs.Lookups.{pass_of}
use Rattle.store_core.specs.Read.{part_of}
use Rattle.store_core.specs.Told.{Seen as CoreSeen}
use Rattle.store_core.specs.Tokens.{actor_of}
use Rattle.call_steps.specs.declared.seen.Seen.{Seen}
use Rattle.stripe_stamps.specs.SeenStripes.{seen_in}
use Rattle.snapshot_view.specs.LookSteps.{versions_kept}
use Rattle.snapshot_view.specs.Met.{met_by}
use Rattle.snapshot_view.specs.Snapshots.{KeptOf, find_kept}
use Rattle.snapshot_view.specs.Tickets.{pins_of}
use Rattle.store_map.specs.Limits.{stripes_met}
use Rattle.session_rules.specs.Gathered.{Range}
use Rattle.session_rules.specs.State.{Chunk, Numbering, Snapshot}
use Rattle.session_rules.specs.Seen.{version_of}
use Rattle.session_rules.specs.Readers.{pin_at, tickets_of}
use Rattle.session_rules.specs.AloneSnapshots.{reader_of, pins_by, kept_stripe}
use Rattle.session_store.specs.Standing.{placed_in}

-- ---- lists
heads : {X : Type 0} (x y : X) (xs ys : List X) → x ∷ xs ≡ y ∷ ys → x ≡ y
heads x y xs ys e = ap (λ l. get_or l 0 x) e

tails : {X : Type 0} (x y : X) (xs ys : List X) → x ∷ xs ≡ y ∷ ys → xs ≡ ys
tails x y xs ys e = ap (drop 1) e

drop_next : {X : Type 0} (xs : List X) (i : ℕ) (d : X) → i < length xs → drop i xs ≡ get_or xs i d ∷ drop (suc i) xs
drop_next [] i d less = absurd (omega (arith, less))
drop_next (x ∷ xs) zero d less = refl
drop_next (x ∷ xs) (suc i) d less = drop_next xs i d (omega (arith, less))

taken_map : {X Y : Type 0} (f : X → Y) (n : ℕ) (xs : List X) → map f (take n xs) ≡ take n (map f xs)
taken_map f zero xs = refl
taken_map f (suc n) [] = refl
taken_map f (suc n) (x ∷ xs) = ap (λ l. f x ∷ l) (taken_map f n xs)

dropped_map : {X Y : Type 0} (f : X → Y) (n : ℕ) (xs : List X) → map f (drop n xs) ≡ drop n (map f xs)
dropped_map f zero xs = refl
dropped_map f (suc n) [] = refl
dropped_map f (suc n) (x ∷ xs) = dropped_map f n xs

walked : {X : Type 0} (xs : List X) (d : X) (k : ℕ → X) → ((i : ℕ) → i < length xs → get_or xs i d ≡ k i) → (n a : ℕ) → All (λ i. i < length xs) (range_with_len a n) → take n (drop a xs) ≡ map k (range_with_len a n)
walked xs d k each zero a all = refl
walked xs d k each (suc n) a all =
    let less : a < length xs = All-head (λ i. i < length xs) a (range_with_len (a + 1) n) all in
    let next : suc a ≡ a + 1 = omega arith in
    ap (take (suc n)) (drop_next xs a d less)
    ∙ ap (λ x. x ∷ take n (drop (suc a) xs)) (each a less)
    ∙ ap (λ l. k a ∷ l) (ap (λ j. take n (drop j xs)) next ∙ walked xs d k each n (a + 1) (All-tail (λ i. i < length xs) a (range_with_len (a + 1) n) all))

-- ---- the object, its numbers, and what its reader pinned
abbrev pinned_by_actor : Directory → Actor → List Pin
pinned_by_actor d who = unwrap_or (option_map (λ (pass : Pass). pass.pinned) (pass_of who d)) []

pins_are : (d : Directory) (token : ActorToken) → Agrees d token → pinned_by_actor d (actor_of token) ≡ pins_of token
pins_are d (ActorToken.Seated seat) agrees = ap (λ (found : Option Pass). unwrap_or (option_map (λ (pass : Pass). pass.pinned) found) []) agrees.no_pass
pins_are d (ActorToken.InCall held) agrees = ap (λ (found : Option Pass). unwrap_or (option_map (λ (pass : Pass). pass.pinned) found) []) agrees.is_pass

module _ (d : Directory) (stands : List ℕ) (number unused : ℕ) (kept : Snapshot) (name : List ℕ) where
  abbrev pub placed_at : ℕ → List Placement
  placed_at n = map (λ epoch. placement.At epoch) (placed_in kept n)

  abbrev pub placed_of : KeptOf → List (List Placement)
  placed_of object = map (λ (seen : Seen). seen.placed.items) object.stripes

  pub record Tied (reader : Option ℕ) (found : Option (List ℕ)) (object : KeptOf) : Type 0 where
    pub numbers : List ℕ
    pub there : found ≡ Some numbers
    pub looked : pins_by d reader ≡ map (pin_at stands) (enumerate_from 0 numbers)
    pub pinned : pins_by d reader ≡ versions_kept object
    pub placed : placed_of object ≡ map placed_at numbers

  pub tied : (readers : List ℕ) (numbers : Numbering) (objects : List KeptOf) (tokens : List ActorToken) → map (λ (object : KeptOf). object.name) objects ≡ names_of numbers → map actor_of tokens ≡ map (λ reader. actor.Client reader) readers →
      All (Agrees d) tokens → map pins_of (take (length objects) tokens) ≡ map versions_kept objects → map placed_of objects ≡ map (λ object. map placed_at object.1) numbers → AllByRecursion (Agrees d) (tickets_of stands number unused readers numbers) →
      (object : KeptOf) → find_kept name objects ≡ Some object → Tied (reader_of name readers numbers) (bytes_of name numbers) object
  tied readers numbers [] tokens names actors agree pins placed tickets object e = absurd (none-some object e)
  tied readers [] (o ∷ os) tokens names actors agree pins placed tickets object e = absurd (cc (names))
  tied readers (n ∷ ns) (o ∷ os) [] names actors agree pins placed tickets object e = absurd (cc (pins))
  tied [] (n ∷ ns) (o ∷ os) (t ∷ ts) names actors agree pins placed tickets object e = absurd (cc (actors))
  tied (r ∷ rs) (n ∷ ns) (o ∷ os) (t ∷ ts) names actors agree pins placed tickets object e =
      by (bytes_eq name n.0) (ap (λ l. cond (bytes_eq name l) (Some o) (find_kept name os)) (sym (heads o.name n.0 (map (λ (object : KeptOf). object.name) os) (names_of ns) names)) ∙ e)
      (tied rs ns os ts (tails o.name n.0 (map (λ (object : KeptOf). object.name) os) (names_of ns) names)
      (tails (actor_of t) (actor.Client r) (map actor_of ts) (map (λ reader. actor.Client reader) rs) actors) (All-tail (Agrees d) t ts agree)
      (tails (pins_of t) (versions_kept o) (map pins_of (take (length os) ts)) (map versions_kept os) pins)
      (tails (placed_of o) (map placed_at n.1) (map placed_of os) (map (λ object. map placed_at object.1) ns) placed) tickets.1 object)
    where
      one : Tied (Some r) (Some n.1) o
      one = record {
        numbers = n.1;
        there = refl;
        looked = ap (λ (found : Option Pass). unwrap_or (option_map (λ (pass : Pass). pass.pinned) found) []) tickets.0.is_pass;
        pinned =
            ap (pinned_by_actor d) (sym (heads (actor_of t) (actor.Client r) (map actor_of ts) (map (λ reader. actor.Client reader) rs) actors)) ∙ pins_are d t (All-head (Agrees d) t ts agree)
            ∙ heads (pins_of t) (versions_kept o) (map pins_of (take (length os) ts)) (map versions_kept os) pins;
        placed = heads (placed_of o) (map placed_at n.1) (map placed_of os) (map (λ object. map placed_at object.1) ns) placed;
      }

      by : (b : Bool) → cond b (Some o) (find_kept name os) ≡ Some object → (find_kept name os ≡ Some object → Tied (reader_of name rs ns) (bytes_of name ns) object) →
          Tied (if b then Some r else reader_of name rs ns) (if b then Some n.1 else bytes_of name ns) object
      by true is rest = subst (Tied (Some r) (Some n.1)) (same_Some o object is) one
      by false is rest = rest is

  -- ---- its stripes
  abbrev seen_from : ℕ → ℕ → CoreSeen
  seen_from i n = record { stripe = i; version = version_of stands n; placed = placed_at n }

  all_seen : (b : ℕ) (ss : List Seen) (ns : List ℕ) (i : ℕ) (other : CoreSeen) → map pin_of (map seen_in ss) ≡ map (pin_at stands) (enumerate_from b ns) → map (λ (seen : Seen). seen.placed.items) ss ≡ map placed_at ns → i < length ns →
      get_or (map seen_in ss) i other ≡ seen_from (b + i) (get_or ns i 0)
  all_seen b ss [] i other pins placed less = absurd (omega (arith, less))
  all_seen b [] (n ∷ ns) i other pins placed less = absurd (cc (pins))
  all_seen b (s ∷ ss) (n ∷ ns) zero other pins placed less =
      let pin : pin_of (seen_in s) ≡ pin_at stands (b, n) = heads (pin_of (seen_in s)) (pin_at stands (b, n)) (map pin_of (map seen_in ss)) (map (pin_at stands) (enumerate_from (b + 1) ns)) pins in
      let at : s.placed.items ≡ placed_at n = heads s.placed.items (placed_at n) (map (λ (seen : Seen). seen.placed.items) ss) (map placed_at ns) placed in
      let same : b ≡ b + 0 = omega arith in
      (λ i. record { stripe = (pin i).stripe; version = (pin i).version; placed = at i }) ∙ ap (λ j. seen_from j n) same
  all_seen b (s ∷ ss) (n ∷ ns) (suc i) other pins placed less =
      let same : b + 1 + i ≡ b + suc i = omega arith in
      all_seen (b + 1) ss ns i other (tails (pin_of (seen_in s)) (pin_at stands (b, n)) (map pin_of (map seen_in ss)) (map (pin_at stands) (enumerate_from (b + 1) ns)) pins)
      (tails s.placed.items (placed_at n) (map (λ (seen : Seen). seen.placed.items) ss) (map placed_at ns) placed) (omega (arith, less))
      ∙ ap (λ j. seen_from j (get_or ns i 0)) same

  version_pinned : (a i : ℕ) (ns : List ℕ) → i < length ns → (get_or (map (pin_at stands) (enumerate_from a ns)) i (record { stripe = 0; version = 0 })).version ≡ version_of stands (get_or ns i 0)
  version_pinned a i [] less = absurd (omega (arith, less))
  version_pinned a zero (n ∷ ns) less = refl
  version_pinned a (suc i) (n ∷ ns) less = version_pinned (a + 1) i ns (omega (arith, less))

  module _ (g : Shape) (readers : List ℕ) (offset count end : ℕ) (object : KeptOf) (its : Tied (reader_of name readers kept.numbers) (bytes_of name kept.numbers) object)
      (within : All (λ i. i < length object.stripes) (range_with_len (offset / stripe_length g) (stripes_met (stripe_length g) offset (end - offset)))) where
    abbrev stripe_kept : ℕ → CoreSeen
    stripe_kept i = kept_stripe g readers d kept name offset count i

    kept_is : (i : ℕ) → i < length its.numbers → stripe_kept i ≡ seen_from i (get_or its.numbers i 0)
    kept_is i less =
        let version = ap (λ (pins : List Pin). let pin : Pin = get_or pins i (record { stripe = 0; version = 0 }) in pin.version) its.looked ∙ version_pinned 0 i its.numbers less in
        let placed : map (λ (chunk : Chunk). placement.At chunk.placed) (get_or kept.stripes (get_or (unwrap_or (bytes_of name kept.numbers) []) i 0) []) ≡ placed_at (get_or its.numbers i 0) =
        ap (λ (found : Option (List ℕ)). map (λ (chunk : Chunk). placement.At chunk.placed) (get_or kept.stripes (get_or (unwrap_or found []) i 0) [])) its.there
        ∙ sym (map-map (λ epoch. placement.At epoch) (λ (chunk : Chunk). chunk.placed) (get_or kept.stripes (get_or its.numbers i 0) [])) in
        λ k. record { stripe = i; version = version k; placed = placed k }

    many : length object.stripes ≡ length its.numbers
    many = sym (length-map object.stripes (λ (seen : Seen). seen.placed.items)) ∙ ap length its.placed ∙ length-map its.numbers placed_at

    seen_kept : (i : ℕ) → i < length (map seen_in object.stripes) → get_or (map seen_in object.stripes) i (stripe_kept 0) ≡ stripe_kept i
    seen_kept i less =
        let below : i < length its.numbers = subst (λ n. i < n) (length-map object.stripes seen_in ∙ many) less in
        let start : 0 + i ≡ i = omega arith in
        all_seen 0 object.stripes its.numbers i (stripe_kept 0) (sym its.pinned ∙ its.looked) its.placed below ∙ ap (λ j. seen_from j (get_or its.numbers i 0)) start ∙ sym (kept_is i below)

    abbrev numbers_read : List ℕ
    numbers_read = range_with_len (offset / stripe_length g) (stripes_met (stripe_length g) offset (end - offset))

    abbrev range_at : ℕ → Range
    range_at i = record { stripe = i; start = offset - i * stripe_length g; end = min (end - i * stripe_length g) (stripe_length g) }

    abbrev part_for : Range → Part
    part_for range = record { seen = stripe_kept range.stripe; start = range.start; end = range.end }

    pub gathered_same : map (part_of g offset end) (map seen_in (met_by (stripe_length g) offset end object.stripes)) ≡ map part_for (map range_at numbers_read)
    gathered_same =
        ap (map (part_of g offset end))
        (taken_map seen_in (stripes_met (stripe_length g) offset (end - offset)) (drop (offset / stripe_length g) object.stripes)
        ∙ ap (take (stripes_met (stripe_length g) offset (end - offset))) (dropped_map seen_in (offset / stripe_length g) object.stripes)
        ∙ walked (map seen_in object.stripes) (stripe_kept 0) stripe_kept seen_kept (stripes_met (stripe_length g) offset (end - offset)) (offset / stripe_length g)
        (subst (λ n. All (λ i. i < n) numbers_read) (sym (length-map object.stripes seen_in)) within))
        ∙ map-map (part_of g offset end) stripe_kept numbers_read
        ∙ sym (map-map part_for range_at numbers_read)
