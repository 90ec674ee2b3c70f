-- All garbage is swept: the places are quiet.
use Rattle.std.proofs.Common.{◌≡◌, ◌≢◌, ◌⊎◌, ℕ, zero, suc, ◌+◌, ◌<◌, nat_eq, Bool, true, false, not, ◌&&◌, cond, List, [], ◌∷◌, ◌++◌, length, map, filter, find, flat_map, slice_get, Option, None, Some, All, IfSome, IsTrue, refl, sym, ap, subst, subst₂, ◌∙◌, inl, inr, arith}
use Rattle.std.specs.List.{enumerate_from, list_any}
use Rattle.std.proofs.lemmas.List.{map-append}
use Rattle.std.proofs.lemmas.Bool.{true≢false, and_parts, or_left, or_right, or_cases, eq-eqb, eqb-true}
use Rattle.std.proofs.lemmas.Option.{same_Some, none-some}
use Rattle.std.proofs.lemmas.List.Elements.{All-cons}
use Rattle.clay_grid.specs.Shape.{Shape, stripe_length}
use Rattle.store_core.specs.Lists.{change_at, is_among}
use Rattle.store_core.specs.Directory.{Object, Standing, Version, Pin, Pass, Directory}
use Rattle.store_core.specs.Lookups.{is_live, is_pinned, is_superseded_standing, holds_standing, first_garbage}
use Rattle.store_core.specs.Server.{Server}
use Rattle.store_core.specs.Step.{Places}
use Rattle.store_core.specs.Sweep.{Sweeper}
use Rattle.session_rules.specs.State.{State as Session}
use Rattle.store_core.specs.AtDirectory.{swept_standing}
use Rattle.session_rules.specs.Alone.{Sweeping, sweeps}
use Rattle.session_rules.specs.Seen.{version_of, all_numbers, snapshot_numbers, live_numbers, stood_under, IsSeenAs, IsOfSnapshot, IsAtRest, IsQuiet}
use Rattle.session_rules.specs.Sweeps.{IsUnseen, KeepsPinned}
use Rattle.session_rules.specs.Quiet.{is_kept_standing, IsKept, IsSettled, AreSwept, AllGarbageIsSwept}
use Rattle.session_rules.proofs.Lists.{all_head, all_tail, all_changed}
use Rattle.session_rules.proofs.Counting.{kept_first, left_first, among_append}
use Rattle.session_rules.proofs.Names.{is_some_by, is_none_by}
use Rattle.session_rules.proofs.Garbage.{is_free, found_free, flat_versions, garbage_is_unseen}
use Rattle.session_rules.proofs.Sweeping.{without, Sweeps, way, q, seen_still}

cases : {P : Type 0} (b : Bool) → (b ≡ true → P) → (b ≡ false → P) → P
cases true t f = t refl
cases false t f = f refl

-- ---- lists
pub all_map : {X Y : Type 0} (P : X → Type 0) (Q : Y → Type 0) (f : X → Y) → ((x : X) → P x → Q (f x)) → (xs : List X) → All P xs → All Q (map f xs)
all_map P Q f step [] all = λ k d less. absurd (omega (arith, less))
all_map P Q f step (x ∷ xs) all = All-cons Q (f x) (map f xs) (step x (all_head P x xs all)) (all_map P Q f step xs (all_tail P x xs all))

all_filter : (P Q : ℕ → Type 0) (test : ℕ → Bool) → ((x : ℕ) → test x ≡ true → P x → Q x) → (xs : List ℕ) → All P xs → All Q (filter test xs)
all_filter P Q test step [] all = λ k d less. absurd (omega (arith, less))
all_filter P Q test step (x ∷ xs) all = by (test x) refl (all_filter P Q test step xs (all_tail P x xs all))
  where
    by : (b : Bool) → test x ≡ b → All Q (filter test xs) → All Q (filter test (x ∷ xs))
    by true e rest = subst (All Q) (sym (kept_first test x xs e)) (All-cons Q x (filter test xs) (step x e (all_head P x xs all)) rest)
    by false e rest = subst (All Q) (sym (left_first test x xs e)) rest

changed_elsewhere : {X : Type 0} (v w : ℕ) (f : X → X) (xs : List X) → v ≢ w → slice_get (change_at v f xs) w ≡ slice_get xs w
changed_elsewhere v w f [] apart = refl
changed_elsewhere zero zero f (x ∷ xs) apart = absurd (apart refl)
changed_elsewhere zero (suc w) f (x ∷ xs) apart = refl
changed_elsewhere (suc v) zero f (x ∷ xs) apart = refl
changed_elsewhere (suc v) (suc w) f (x ∷ xs) apart = changed_elsewhere v w f xs (λ e. apart (ap suc e))

changed_twice : {X : Type 0} (v : ℕ) (f h : X → X) (xs : List X) → change_at v h (change_at v f xs) ≡ change_at v (λ x. h (f x)) xs
changed_twice v f h [] = refl
changed_twice zero f h (x ∷ xs) = refl
changed_twice (suc v) f h (x ∷ xs) = ap (λ ys. x ∷ ys) (changed_twice v f h xs)

-- ---- each sweep leaves one superseded version less
abbrev is_superseded : Version → Bool
is_superseded version = is_superseded_standing version.standing

abbrev now_swept : Version → Version
now_swept version = record version { standing = Standing.Swept }

abbrev superseded_count : List Version → ℕ
superseded_count versions = length (filter is_superseded versions)

fewer : (v : ℕ) (versions : List Version) (x : Version) → slice_get versions v ≡ Some x → is_superseded x ≡ true → superseded_count (change_at v now_swept versions) < superseded_count versions
fewer v [] x there superseded = absurd (none-some x there)
fewer zero (y ∷ ys) x there superseded =
    let same : y ≡ x = same_Some y x there in
    let a : superseded_count (now_swept y ∷ ys) ≡ superseded_count ys = ap length (left_first is_superseded (now_swept y) ys refl) in
    let b : superseded_count (y ∷ ys) ≡ suc (superseded_count ys) = ap length (kept_first is_superseded y ys (ap is_superseded same ∙ superseded)) in
    omega (arith, a, b)
fewer (suc v) (y ∷ ys) x there superseded = by (fewer v ys x there superseded) (is_superseded y) refl
  where
    by : superseded_count (change_at v now_swept ys) < superseded_count ys → (b : Bool) → is_superseded y ≡ b → superseded_count (y ∷ change_at v now_swept ys) < superseded_count (y ∷ ys)
    by less true e =
        let a : superseded_count (y ∷ change_at v now_swept ys) ≡ suc (superseded_count (change_at v now_swept ys)) = ap length (kept_first is_superseded y (change_at v now_swept ys) e) in
        let b : superseded_count (y ∷ ys) ≡ suc (superseded_count ys) = ap length (kept_first is_superseded y ys e) in
        omega (arith, a, b, less)
    by less false e =
        let a : superseded_count (y ∷ change_at v now_swept ys) ≡ superseded_count (change_at v now_swept ys) = ap length (left_first is_superseded y (change_at v now_swept ys) e) in
        let b : superseded_count (y ∷ ys) ≡ superseded_count ys = ap length (left_first is_superseded y ys e) in
        omega (arith, a, b, less)

-- ---- where there is no garbage, what is superseded is pinned
none_free : (d : Directory) (start : ℕ) (versions : List Version) (i : ℕ) (y : Version) → find (is_free d) (enumerate_from start versions) ≡ None → slice_get versions i ≡ Some y → is_free d (start + i, y) ≡ false
none_free d start [] i y e there = absurd (none-some y there)
none_free d start (x ∷ xs) i y e there = by (is_free d (start, x)) refl e i there (λ j z. none_free d (start + 1) xs j z)
  where
    by : (b : Bool) → is_free d (start, x) ≡ b → (let here : Option (ℕ × Version) = Some (start, x) in cond b here (find (is_free d) (enumerate_from (start + 1) xs))) ≡ None →
        (i : ℕ) → slice_get (x ∷ xs) i ≡ Some y →
        ((j : ℕ) (z : Version) → find (is_free d) (enumerate_from (start + 1) xs) ≡ None → slice_get xs j ≡ Some z → is_free d (start + 1 + j, z) ≡ false) → is_free d (start + i, y) ≡ false
    by true is none i there rest = absurd (none-some {A = ℕ × Version} (start, x) (sym none))
    by false is none zero there rest =
        let same : x ≡ y = same_Some x y there in
        let here : start + zero ≡ start = omega arith in
        ap (λ n. is_free d (n, y)) here ∙ ap (λ z. is_free d (start, z)) (sym same) ∙ is
    by false is none (suc i) there rest = let here : start + suc i ≡ start + 1 + i = omega arith in ap (λ n. is_free d (n, y)) here ∙ rest i y none there

-- ---- what a snapshot's looks pin is among its versions
pins_kept : (v : ℕ) (kept : List ℕ) (pins : List Pin) → All (λ pin. IsTrue (is_among pin.version kept)) pins → list_any (λ pin. nat_eq v pin.version) pins ≡ true → is_among v kept ≡ true
pins_kept v kept [] all e = absurd (true≢false (sym e))
pins_kept v kept (pin ∷ pins) all e =
    by (or_cases (nat_eq v pin.version) (list_any (λ (pin : Pin). nat_eq v pin.version) pins) e) (pins_kept v kept pins (all_tail (λ (pin : Pin). IsTrue (is_among pin.version kept)) pin pins all))
  where
    by : (nat_eq v pin.version ≡ true) ⊎ (list_any (λ pin. nat_eq v pin.version) pins ≡ true) → (list_any (λ pin. nat_eq v pin.version) pins ≡ true → is_among v kept ≡ true) → is_among v kept ≡ true
    by (inl here) rest = ap (λ n. is_among n kept) (eqb-true v pin.version here) ∙ all_head (λ (pin : Pin). IsTrue (is_among pin.version kept)) pin pins all
    by (inr later) rest = rest later

abbrev pub pins_it : ℕ → Pass → Bool
pins_it v pass = is_live pass.reaped && list_any (λ pin. nat_eq v pin.version) pass.pinned

passes_kept : (v : ℕ) (kept : List ℕ) (passes : List Pass) → All (IsOfSnapshot kept) passes → list_any (pins_it v) passes ≡ true → is_among v kept ≡ true
passes_kept v kept [] all e = absurd (true≢false (sym e))
passes_kept v kept (pass ∷ passes) all e = by (or_cases (pins_it v pass) (list_any (pins_it v) passes) e) (passes_kept v kept passes (all_tail (IsOfSnapshot kept) pass passes all))
  where
    by : (pins_it v pass ≡ true) ⊎ (list_any (pins_it v) passes ≡ true) → (list_any (pins_it v) passes ≡ true → is_among v kept ≡ true) → is_among v kept ≡ true
    by (inl here) rest = pins_kept v kept pass.pinned (all_head (IsOfSnapshot kept) pass passes all).pins (and_parts (is_live pass.reaped) (list_any (λ (pin : Pin). nat_eq v pin.version) pass.pinned) here).1
    by (inr later) rest = rest later

-- ---- the versions of objects are those of the state's numbers
in_objects : (v i : ℕ) (objects : List Object) → IfSome (slice_get objects i) (λ object. IsTrue (is_among v object.versions)) → i < length objects → is_among v (flat_map (λ object. object.versions) objects) ≡ true
in_objects v i [] has less = absurd (omega (arith, less))
in_objects v zero (object ∷ objects) has less = among_append v object.versions (flat_map (λ (object : Object). object.versions) objects) ∙ or_left _ _ has
in_objects v (suc i) (object ∷ objects) has less =
    among_append v object.versions (flat_map (λ (object : Object). object.versions) objects) ∙ or_right _ _ (in_objects v i objects has (omega (arith, less)))

pub flat_stood : (stands : List ℕ) (numbers : List (List ℕ × List ℕ)) → flat_map (λ object. object.1) (map (stood_under stands) numbers) ≡ map (version_of stands) (all_numbers numbers)
flat_stood stands [] = refl
flat_stood stands (object ∷ numbers) =
    ap (λ l. map (version_of stands) object.1 ++ l) (flat_stood stands numbers) ∙ sym (map-append (version_of stands) object.1 (all_numbers numbers))

-- ---- what is garbage is there, and superseded
garbage_there : (d : Directory) (version : ℕ) → first_garbage d ≡ Some version → (x : Version) × (slice_get d.versions version ≡ Some x) × (is_superseded x ≡ true)
garbage_there d version garbage = (found.0.1, ap (slice_get d.versions) (sym place) ∙ free.1.2, (and_parts (is_superseded found.0.1) (not (is_pinned d found.0.0)) free.0).0)
  where
    found : (entry : ℕ × Version) × (find (is_free d) (enumerate_from 0 d.versions) ≡ Some entry) × (entry.0 ≡ version)
    found = is_some_by (λ (entry : ℕ × Version). entry.0) (find (is_free d) (enumerate_from 0 d.versions)) version garbage

    free : (is_free d found.0 ≡ true) × ((i : ℕ) × (found.0.0 ≡ 0 + i) × (slice_get d.versions i ≡ Some found.0.1))
    free = found_free d 0 d.versions found.0 found.1

    place : free.1.0 ≡ version
    place = let a : found.0.0 ≡ 0 + free.1.0 = free.1.1 in let b : found.0.0 ≡ version = found.2 in omega (arith, a, b)

-- the places after a version was swept
abbrev swept_places : ℕ → Places → Places
swept_places version p = record { directory = record p.directory { versions = change_at version now_swept p.directory.versions }; servers = map (without version) p.servers }

abbrev idle_at : Places → Sweeping
idle_at p = record { sweeper = Sweeper.Idle; places = p }

module _ (g : Shape) (max : ℕ) (stands : List ℕ) (s : Session) where
  module _ (p : Places) (h : IsSeenAs g max stands p s) (settled : IsSettled stands p s) (none : first_garbage p.directory ≡ None) where
    live_versions : map (version_of stands) (live_numbers s) ≡ map (version_of stands) (all_numbers s.numbers) ++ map (version_of stands) (snapshot_numbers s.snapshot)
    live_versions = map-append (version_of stands) (all_numbers s.numbers) (snapshot_numbers s.snapshot)

    among_live : (v : ℕ) → (is_among v (map (version_of stands) (all_numbers s.numbers)) ≡ true) ⊎ (is_among v (map (version_of stands) (snapshot_numbers s.snapshot)) ≡ true) →
        is_among v (map (version_of stands) (live_numbers s)) ≡ true
    among_live v (inl here) =
        ap (is_among v) live_versions ∙ among_append v (map (version_of stands) (all_numbers s.numbers)) (map (version_of stands) (snapshot_numbers s.snapshot)) ∙ or_left _ _ here
    among_live v (inr kept) =
        ap (is_among v) live_versions ∙ among_append v (map (version_of stands) (all_numbers s.numbers)) (map (version_of stands) (snapshot_numbers s.snapshot)) ∙ or_right _ _ kept

    current_live : (v : ℕ) (x : Version) → slice_get p.directory.versions v ≡ Some x → x.standing ≡ Standing.Current → v < length p.directory.versions → is_among v (map (version_of stands) (live_numbers s)) ≡ true
    current_live v x there current less =
        let stand : IfSome (slice_get p.directory.versions v) (λ (version : Version). version.standing ≡ Standing.Current) =
        subst (λ f. IfSome f (λ (version : Version). version.standing ≡ Standing.Current)) (sym there) current in
        let place : (i : ℕ) × (i < length p.directory.objects) × IfSome (slice_get p.directory.objects i) (λ object. IsTrue (is_among v object.versions)) = h.sound.listed v (stand, less) in
        among_live v (inl
        (ap (is_among v) (sym (flat_stood stands s.numbers) ∙ ap (flat_map (λ (object : List ℕ × List ℕ). object.1)) (sym h.versions) ∙ flat_versions p.directory.objects)
        ∙ in_objects v place.0 p.directory.objects place.2 place.1))

    superseded_live : (v : ℕ) (x : Version) → slice_get p.directory.versions v ≡ Some x → x.standing ≡ Standing.Superseded → is_among v (map (version_of stands) (live_numbers s)) ≡ true
    superseded_live v x there superseded = among_live v (inr (passes_kept v (map (version_of stands) (snapshot_numbers s.snapshot)) p.directory.passes settled.passes pinned))
      where
        negated : (b : Bool) → not b ≡ false → b ≡ true
        negated true e = refl
        negated false e = absurd (true≢false e)

        free : is_free p.directory (v, x) ≡ false
        free =
            let here : v ≡ 0 + v = omega arith in
            ap (λ n. is_free p.directory (n, x)) here
            ∙ none_free p.directory 0 p.directory.versions v x (is_none_by (λ (entry : ℕ × Version). entry.0) (find (is_free p.directory) (enumerate_from 0 p.directory.versions)) none) there

        pinned : is_pinned p.directory v ≡ true
        pinned = negated (is_pinned p.directory v) (sym (ap (λ t. is_superseded_standing t && not (is_pinned p.directory v)) superseded) ∙ free)

    there_less : (v : ℕ) (xs : List Version) (x : Version) → slice_get xs v ≡ Some x → v < length xs
    there_less v [] x there = absurd (none-some x there)
    there_less zero (y ∷ ys) x there = omega arith
    there_less (suc v) (y ∷ ys) x there = let less : v < length ys = there_less v ys x there in omega (arith, less)

    kept_live : (v : ℕ) (f : Option Version) → slice_get p.directory.versions v ≡ f → holds_standing is_kept_standing f ≡ true → is_among v (map (version_of stands) (live_numbers s)) ≡ true
    kept_live v None there kept = absurd (true≢false (sym kept))
    kept_live v (Some x) there kept = by x.standing refl kept
      where
        by : (t : Standing) → x.standing ≡ t → is_kept_standing t ≡ true → is_among v (map (version_of stands) (live_numbers s)) ≡ true
        by Standing.Current e k = current_live v x there e (there_less v p.directory.versions x there)
        by Standing.Superseded e k = superseded_live v x there e
        by Standing.Drawn e k = absurd (true≢false (sym k))
        by Standing.Taken e k = absurd (true≢false (sym k))
        by Standing.Swept e k = absurd (true≢false (sym k))

    all_live : (held : List ℕ) → All (IsKept p.directory) held → All (λ version. IsTrue (is_among version (map (version_of stands) (live_numbers s)))) held
    all_live [] all = λ k d less. absurd (omega (arith, less))
    all_live (v ∷ held) all =
        All-cons (λ (version : ℕ). IsTrue (is_among version (map (version_of stands) (live_numbers s)))) v held
        (kept_live v (slice_get p.directory.versions v) refl (all_head (IsKept p.directory) v held all)) (all_live held (all_tail (IsKept p.directory) v held all))

    servers_live : (servers : List Server) → All (λ server. All (IsKept p.directory) server.held) servers →
        All (λ server. All (λ version. IsTrue (is_among version (map (version_of stands) (live_numbers s)))) server.held) servers
    servers_live [] all = λ k d less. absurd (omega (arith, less))
    servers_live (one ∷ servers) all =
        All-cons (λ (server : Server). All (λ version. IsTrue (is_among version (map (version_of stands) (live_numbers s)))) server.held) one servers
        (all_live one.held (all_head (λ (server : Server). All (IsKept p.directory) server.held) one servers all))
        (servers_live servers (all_tail (λ (server : Server). All (IsKept p.directory) server.held) one servers all))

    quiet_now : IsQuiet stands p s
    quiet_now = record { passes = settled.passes; clean = none; held = servers_live p.servers settled.held; standing = settled.standing }

  next_settled : (p : Places) (version : ℕ) → IsSettled stands p s → IsSettled stands (swept_places version p) s
  next_settled p version settled = record {
    passes = settled.passes;
    held =
        all_map (λ (server : Server). All (IsKept p.directory) server.held) (λ (server : Server). All (IsKept (swept_places version p).directory) server.held) (without version)
        (λ server all. all_filter (IsKept p.directory) (IsKept (swept_places version p).directory) (λ other. not (nat_eq version other)) still server.held all) p.servers settled.held;
    standing = all_changed IsAtRest version now_swept p.directory.versions settled.standing (λ x there rest. inr (inr refl));
  }
    where
      still : (w : ℕ) → not (nat_eq version w) ≡ true → IsKept p.directory w → IsKept (swept_places version p).directory w
      still w e kept =
          ap (holds_standing is_kept_standing) (changed_elsewhere version w now_swept p.directory.versions (λ same. true≢false (sym e ∙ ap not (eq-eqb version w same)))) ∙ kept

  module _ (some : 0 < stripe_length g) (p : Places) (h : IsSeenAs g max stands p s) (pinned : KeepsPinned stands p s) (version : ℕ) (garbage : first_garbage p.directory ≡ Some version) where
    at_its_shape : IsSeenAs p.directory.shape p.directory.max stands p s
    at_its_shape = subst₂ (λ g max. IsSeenAs g max stands p s) (sym h.shape) (sym h.most) h

    some_there : 0 < stripe_length p.directory.shape
    some_there = subst (λ g. 0 < stripe_length g) (sym h.shape) some

    unseen : IsUnseen stands s version
    unseen = garbage_is_unseen g max stands p s version h pinned garbage

    q_is : q g version stands p s at_its_shape h.shape some_there garbage unseen ≡ swept_places version p
    q_is =
        ap (λ versions. let places : Places = record { directory = record p.directory { versions = versions }; servers = map (without version) p.servers } in places)
        (changed_twice version (λ (x : Version). record x { standing = Standing.Taken }) (λ x. record x { standing = swept_standing x.standing }) p.directory.versions)

    next_seen : IsSeenAs g max stands (swept_places version p) s
    next_seen =
        subst (λ places. IsSeenAs g max stands places s) q_is
        (subst₂ (λ shape most. IsSeenAs shape most stands (q g version stands p s at_its_shape h.shape some_there garbage unseen) s) h.shape h.most
        (seen_still g version stands p s at_its_shape h.shape some_there garbage unseen))

    and_on : AreSwept g max stands (swept_places version p) s → AreSwept g max stands p s
    and_on r = record { made = w.made; after = r.after; idle = w.comes; seen = r.seen; pinned = r.pinned; quiet = r.quiet }
      where
        w : Sweeps g (idle_at p) (idle_at r.after)
        w = way g version stands p s at_its_shape h.shape some_there garbage unseen (idle_at r.after)
            (record { made = r.made; comes = ap (λ places. sweeps g r.made (idle_at places)) q_is ∙ r.idle })

  clean : (fuel : ℕ) (p : Places) → 0 < stripe_length g → superseded_count p.directory.versions < fuel → IsSeenAs g max stands p s → KeepsPinned stands p s → IsSettled stands p s → AreSwept g max stands p s
  clean zero p some less h pinned settled = absurd (omega (arith, less))
  clean (suc fuel) p some less h pinned settled = by (first_garbage p.directory) refl (λ places. clean fuel places some)
    where
      by : (found : Option ℕ) → first_garbage p.directory ≡ found →
          ((places : Places) → superseded_count places.directory.versions < fuel → IsSeenAs g max stands places s → KeepsPinned stands places s → IsSettled stands places s → AreSwept g max stands places s) →
          AreSwept g max stands p s
      by None e rest = record { made = 0; after = p; idle = refl; seen = h; pinned = pinned; quiet = quiet_now p h settled e }
      by (Some version) e rest =
          let there : (x : Version) × (slice_get p.directory.versions version ≡ Some x) × (is_superseded x ≡ true) = garbage_there p.directory version e in
          let one_less : superseded_count (change_at version now_swept p.directory.versions) < superseded_count p.directory.versions = fewer version p.directory.versions there.0 there.1 there.2 in
          and_on some p h pinned version e
          (rest (swept_places version p) (omega (arith, less, one_less)) (next_seen some p h pinned version e) (λ number live. pinned number live) (next_settled p version settled))

pub all_garbage_is_swept : AllGarbageIsSwept
all_garbage_is_swept g max stands p s some h pinned settled =
    clean g max stands s (suc (superseded_count p.directory.versions)) p some (omega arith) h pinned settled
