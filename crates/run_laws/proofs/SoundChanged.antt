-- An object that is put in place of another, or anew, keeps a directory sound: its versions come from the old ones and from those that were drawn.
use Rattle.std.proofs.Common.{min, length-take, ◌≡◌, ◌≢◌, ◌⊎◌, ℕ, ◌+◌, ◌-◌, ◌<◌, ◌≤◌, true, false, List, [], ◌++◌, length, get_or, take, drop, slice_get, Option, None, Some, IfSome, All, AllPairs, Contains, IsTrue, bytes_eq, refl, sym, ap, subst, ◌∙◌, inl, inr, arith, length-append, length-drop}
use Rattle.std.proofs.lemmas.Bool.{true≢false, cases_lt, cases_eq, cases_order, false_from_ne_true}
use Rattle.std.proofs.lemmas.Option.{same_Some}
use Rattle.std.proofs.lemmas.List.{get_or_default, get_or_append_left, get_or-append_right, get_or-take, get_or-drop, length-take-le}
use Rattle.std.proofs.lemmas.List.Elements.{All-contains, Contains-get_or, Contains-append_left, Contains-append_right}
use Rattle.clay_grid.specs.Shape.{stripe_length}
use Rattle.store_map.specs.Limits.{stripes_met}
use Rattle.store_core.specs.Placements.{IsRow}
use Rattle.store_map.specs.declared.placement.Placement.{Placement}
use Rattle.store_core.specs.Lists.{is_among}
use Rattle.store_core.specs.Directory.{Object, Standing, Version, Pass, Point, Directory}
use Rattle.store_core.specs.Lookups.{find_object, is_change, is_live}
use Rattle.store_core.specs.Commit.{put_object}
use Rattle.store_core.specs.Lengths.{put_length, apply_length}
use Rattle.store_core.specs.Replay.{FitsEvent, after_event}
use Rattle.store_core.specs.SoundPasses.{Stands, IsOfItsCall}
use Rattle.store_core.specs.Sound.{HasItsVersions, StandsOnce, AreInOrder, IsSound, lengths_of}
use Rattle.run_laws.proofs.SoundLists.{all_at, at_all, among, is_in, contains_at}
use Rattle.run_laws.proofs.SoundHistory.{replays_more}
use Rattle.run_laws.proofs.SoundVersions.{StandsThere, stands_there, standing_of}
use Rattle.run_laws.proofs.SoundAdds.{Listed, with_point, added}
use Rattle.run_laws.proofs.SoundClose.{drawn_is_not_current}
use Rattle.run_laws.proofs.SoundLaid.{CanBeLaid, laid, laid_moves, laid_drawn, laid_kept, laid_back}
use Rattle.run_laws.proofs.SoundObjects.{lengths_in, PutAt, put_at, found_after_put, lengths_put}
use Rattle.run_laws.proofs.SoundDelete.{change_follows, version_current, same_object, listed_there, StandsAt, where_it_stands}

-- ---- new versions of an object, from its old ones and those that were drawn
-- none of the dropped ones stands at this place of the old ones
abbrev pub IsKept : List ℕ → List ℕ → ℕ → Type 0
IsKept old dropped a = (b : ℕ) → b < length dropped → (c : ℕ) × (c < length old) × (get_or old c 0 ≡ get_or dropped b 0) × (c ≢ a)

-- where a new version comes from: from the same place of the old ones, or from the drawn ones
abbrev pub Origin : List ℕ → List ℕ → List ℕ → ℕ → ℕ → ℕ → Type 0
Origin old drawn dropped shift a n =
    ((a < length old) × (get_or old a 0 ≡ n) × IsKept old dropped a)
    ⊎ ((b : ℕ) × (a ≡ shift + b) × (b < length drawn) × (get_or drawn b 0 ≡ n))

-- new versions by their places; each drawn one is among them, and each old one that isn't dropped
pub record ComesFrom (old drawn dropped new : List ℕ) : Type 0 where
  pub shift : ℕ
  pub origin : (a : ℕ) → a < length new → Origin old drawn dropped shift a (get_or new a 0)
  pub holds : (n : ℕ) → Contains drawn n → Contains new n
  pub gone : (n : ℕ) → Contains dropped n → Contains old n
  pub rest : (n : ℕ) → Contains old n → Contains new n ⊎ Contains dropped n

-- a put's versions are those that it drew
pub all_drawn : (old drawn : List ℕ) → ComesFrom old drawn old drawn
all_drawn old drawn = record { shift = 0; origin = λ a less. inr (a, omega arith, less, refl); holds = λ n c. c; gone = λ n c. c; rest = λ n c. inr c }

-- a write lays what it drew over the old ones
pub laid_over : (old drawn : List ℕ) (first : ℕ) → first ≤ length old → ComesFrom old drawn (take (length drawn) (drop first old)) (take first old ++ drawn ++ drop (first + length drawn) old)
laid_over old drawn first fits =
    record {
      shift = first;
      origin = from;
      holds = λ n c. Contains-append_left (take first old ++ drawn) (drop (first + length drawn) old) n (Contains-append_right (take first old) drawn n c);
      gone = back;
      rest = stays;
    }
  where
    front : length (take first old) ≡ first
    front = length-take-le first old fits

    middle : length (take first old ++ drawn) ≡ first + length drawn
    middle = length-append (take first old) drawn ∙ ap (λ n. n + length drawn) front

    new : List ℕ
    new = take first old ++ drawn ++ drop (first + length drawn) old

    count : length new ≡ first + length drawn + (length old - (first + length drawn))
    count = length-append (take first old ++ drawn) (drop (first + length drawn) old) ∙ ap (λ n. n + length (drop (first + length drawn) old)) middle ∙ ap (λ n. first + length drawn + n) (length-drop (first + length drawn) old)

    few : length (take (length drawn) (drop first old)) ≡ min (length drawn) (length old - first)
    few = length-take (length drawn) (drop first old) ∙ ap (min (length drawn)) (length-drop first old)

    -- a dropped version by its place
    at_dropped : (b x : ℕ) → b < length drawn → get_or (take (length drawn) (drop first old)) b x ≡ get_or old (first + b) x
    at_dropped b x less = get_or-take (length drawn) (drop first old) b x less ∙ get_or-drop first old b x

    by_place : (a b : ℕ) → b < length (take (length drawn) (drop first old)) → (a < first) ⊎ (first + length drawn ≤ a)
        → (c : ℕ) × (c < length old) × (get_or old c 0 ≡ get_or (take (length drawn) (drop first old)) b 0) × (c ≢ a)
    by_place a b less (inl low) = (first + b, omega (arith, less, few), sym (at_dropped b 0 (omega (arith, less, few))), λ e. omega (arith, e, low))
    by_place a b less (inr more) = (first + b, omega (arith, less, few), sym (at_dropped b 0 (omega (arith, less, few))), λ e. omega (arith, e, more, less, few))

    back : (n : ℕ) → Contains (take (length drawn) (drop first old)) n → Contains old n
    back n c = let less : c.0 < length (take (length drawn) (drop first old)) = c.1 in
        (first + c.0, omega (arith, less, few), sym (at_dropped c.0 n (omega (arith, less, few))) ∙ c.2)

    stays : (n : ℕ) → Contains old n → Contains (take first old ++ drawn ++ drop (first + length drawn) old) n ⊎ Contains (take (length drawn) (drop first old)) n
    stays n c = by (cases_lt c.0 first) (cases_lt c.0 (first + length drawn))
      where
        there : c.0 < length old
        there = c.1

        rest_count : length (drop (first + length drawn) old) ≡ length old - (first + length drawn)
        rest_count = length-drop (first + length drawn) old

        by : (c.0 < first) ⊎ (first ≤ c.0) → (c.0 < first + length drawn) ⊎ (first + length drawn ≤ c.0)
            → Contains (take first old ++ drawn ++ drop (first + length drawn) old) n ⊎ Contains (take (length drawn) (drop first old)) n
        by (inl low) other =
            inl (Contains-append_left (take first old ++ drawn) (drop (first + length drawn) old) n
            (Contains-append_left (take first old) drawn n (c.0, omega (arith, front, low), get_or-take first old c.0 n low ∙ c.2)))
        by (inr high) (inl low) =
            inr (c.0 - first, omega (arith, few, high, low, there), at_dropped (c.0 - first) n (omega (arith, high, low)) ∙ ap (λ i. get_or old i n) (omega (arith, high)) ∙ c.2)
        by (inr high) (inr more) =
            inl (Contains-append_right (take first old ++ drawn) (drop (first + length drawn) old) n
            (c.0 - (first + length drawn), omega (arith, rest_count, more, there), get_or-drop (first + length drawn) old (c.0 - (first + length drawn)) n ∙ ap (λ i. get_or old i n) (omega (arith, more)) ∙ c.2))

    from : (a : ℕ) → a < length new → Origin old drawn (take (length drawn) (drop first old)) first a (get_or new a 0)
    from a less = by (cases_lt a first) (cases_lt a (first + length drawn))
      where
        by : (a < first) ⊎ (first ≤ a) → (a < first + length drawn) ⊎ (first + length drawn ≤ a) → Origin old drawn (take (length drawn) (drop first old)) first a (get_or new a 0)
        by (inl low) other =
            inl (
              omega (arith, low, fits),
              sym (get_or_append_left (take first old ++ drawn) (drop (first + length drawn) old) 0 a (omega (arith, middle, low))
                  ∙ get_or_append_left (take first old) drawn 0 a (omega (arith, front, low)) ∙ get_or-take first old a 0 low),
              λ b less. by_place a b less (inl low),
            )
        by (inr high) (inl low) =
            inr (
              a - first,
              omega (arith, high),
              omega (arith, high, low),
              sym (get_or_append_left (take first old ++ drawn) (drop (first + length drawn) old) 0 a (omega (arith, middle, low))
                  ∙ get_or-append_right (take first old) drawn first a 0 front high),
            )
        by (inr high) (inr more) =
            inl (
              omega (arith, less, count, more),
              sym (get_or-append_right (take first old ++ drawn) (drop (first + length drawn) old) (first + length drawn) a 0 middle more
                  ∙ get_or-drop (first + length drawn) old (a - (first + length drawn)) 0 ∙ ap (λ i. get_or old i 0) (omega (arith, more))),
              λ b less. by_place a b less (inr more),
            )

-- ---- an object is put
abbrev pub versions_of : Option Object → List ℕ
versions_of None = []
versions_of (Some object) = object.versions

-- what an object owes that is put: where it is found, whence its versions come, and what was drawn for it
pub record CanBePut (d : Directory) (new : Object) (found : Option Object) (drawn dropped : List ℕ) (rows : List (List Placement)) : Type 0 where
  pub is_found : find_object new.name d.objects ≡ found
  pub comes : ComesFrom (versions_of found) drawn dropped new.versions
  pub is_drawn : (n : ℕ) → Contains drawn n → Stands d Standing.Drawn n
  pub differ : AllPairs (λ v w. v ≢ w) drawn
  pub left : (pass : Pass) → Contains d.passes pass → IsTrue (is_live pass.reaped) → (n : ℕ) → Contains drawn n → Contains pass.drawn n → ⊥
  pub one_each : length rows ≡ length drawn
  pub whole : All (IsRow d.shape) rows
  pub count : length new.versions ≡ stripes_met (stripe_length d.shape) 0 new.length

module _ (d : Directory) (sound : IsSound d) (new : Object) (found : Option Object) (drawn dropped : List ℕ) (rows : List (List Placement)) (can : CanBePut d new found drawn dropped rows) (point : Point) where
  -- the versions that the object had
  abbrev old : List ℕ
  old = versions_of found

  -- the objects after
  abbrev put_objects : List Object
  put_objects = put_object new d.objects

  -- the versions after
  abbrev put_versions : List Version
  put_versions = laid drawn rows dropped d.versions

  -- the directory after
  abbrev after_put : Directory
  after_put = with_point d put_objects put_versions point

  -- where the object is put
  put_there : PutAt d.objects (put_object new d.objects) (find_object new.name d.objects) new
  put_there = put_at new d.objects

  -- its place
  abbrev place : ℕ
  place = put_there.place

  -- the object that had the old versions
  record HadOld : Type 0 where
    object : Object
    at : slice_get d.objects place ≡ Some object
    same : object.versions ≡ old

  -- where there are old versions there is the object that had them
  old_object : (n : ℕ) → Contains old n → HadOld
  old_object n c = by found refl c
    where
      by : (f : Option Object) → found ≡ f → Contains (versions_of f) n → HadOld
      by None e c = absurd (let less : c.0 < 0 = c.1 in omega (arith, less))
      by (Some object) e c = record { object = object; at = put_there.was ∙ can.is_found ∙ e; same = ap versions_of (sym e) }

  -- they stood as current
  old_current : (n : ℕ) → Contains old n → Stands d Standing.Current n
  old_current n c =
      let had : HadOld = old_object n c in
      version_current d sound place had.object had.at n (subst (λ vs. Contains vs n) (sym had.same) c)

  -- no version is both drawn and current
  not_both : (n : ℕ) → Stands d Standing.Drawn n → Stands d Standing.Current n → ⊥
  not_both n h k =
      let there : StandsThere d.versions Standing.Current n = stands_there d.versions Standing.Current n k in
      drawn_is_not_current there.version.standing (standing_of d.versions Standing.Drawn n there.version h there.found) there.stands

  -- the versions can be laid
  lays : CanBeLaid d drawn rows dropped
  lays = record { is_drawn = can.is_drawn; is_current = λ n c. old_current n (can.comes.gone n c); one_each = can.one_each; whole = can.whole; left = can.left }

  -- ---- the new object
  -- two places of the old versions hold two versions
  old_once : (a b n : ℕ) → a < length old → b < length old → get_or old a 0 ≡ n → get_or old b 0 ≡ n → a ≡ b
  old_once a b n in_a in_b e f = by (old_object n (a, in_a, get_or_default old a n 0 in_a ∙ e))
    where
      by : HadOld → a ≡ b
      by had =
          let a_there : a < length had.object.versions = subst (λ vs. a < length vs) (sym had.same) in_a in
          let b_there : b < length had.object.versions = subst (λ vs. b < length vs) (sym had.same) in_b in
          (sound.once place place a b had.object had.object had.at had.at a_there b_there (ap (λ vs. get_or vs a 0) had.same ∙ e ∙ sym f ∙ sym (ap (λ vs. get_or vs b 0) had.same))).1

  -- none of its versions is dropped
  origin_not_dropped : (a n : ℕ) → Origin old drawn dropped can.comes.shift a n → Contains dropped n → ⊥
  origin_not_dropped a n (inl h) c =
      let other : (e : ℕ) × (e < length old) × (get_or old e 0 ≡ get_or dropped c.0 0) × (e ≢ a) = h.2 c.0 c.1 in
      other.3 (old_once other.0 a n other.1 h.0 (other.2 ∙ get_or_default dropped c.0 0 n c.1 ∙ c.2) h.1)
  origin_not_dropped a n (inr h) c = not_both n (can.is_drawn n (h.0, h.2, get_or_default drawn h.0 n 0 h.2 ∙ h.3)) (old_current n (can.comes.gone n c))

  new_not_dropped : (n : ℕ) → Contains new.versions n → is_among n dropped ≡ false
  new_not_dropped n c =
      false_from_ne_true (is_among n dropped)
      (λ e. origin_not_dropped c.0 n (subst (Origin old drawn dropped can.comes.shift c.0) (get_or_default new.versions c.0 0 n c.1 ∙ c.2) (can.comes.origin c.0 c.1)) (is_in n dropped e))

  -- wherever a new version comes from, it is current then
  from_origin : (a n : ℕ) → Contains new.versions n → Origin old drawn dropped can.comes.shift a n → Stands after_put Standing.Current n
  from_origin a n c (inl h) = laid_kept d drawn rows dropped lays n (old_current n (a, h.0, get_or_default old a n 0 h.0 ∙ h.1)) (new_not_dropped n c)
  from_origin a n c (inr h) = laid_drawn d drawn rows dropped lays n (h.0, h.2, get_or_default drawn h.0 n 0 h.2 ∙ h.3)

  -- the new object has its versions
  new_right : HasItsVersions after_put new
  new_right =
      record {
        count = can.count;
        current = λ a n less.
            let same : get_or new.versions a n ≡ get_or new.versions a 0 = get_or_default new.versions a n 0 less in
            subst (Stands after_put Standing.Current) (sym same)
            (from_origin a (get_or new.versions a 0) (Contains-get_or new.versions a 0 less) (can.comes.origin a less));
      }

  -- ---- another object
  not_dropped : (i : ℕ) (other : Object) → slice_get d.objects i ≡ Some other → (i ≡ place → ⊥) → (n : ℕ) → Contains other.versions n → is_among n dropped ≡ false
  not_dropped i other at apart n c =
      false_from_ne_true (is_among n dropped)
      (λ e.
      let in_old : Contains old n = can.comes.gone n (is_in n dropped e) in
      let had : HadOld = old_object n in_old in
      apart (same_object d sound i place other had.object at had.at n c (subst (λ vs. Contains vs n) (sym had.same) in_old)))

  -- another object keeps its versions
  other_right : (i : ℕ) (other : Object) → slice_get d.objects i ≡ Some other → (i ≡ place → ⊥) → HasItsVersions after_put other
  other_right i other at apart =
      let has : HasItsVersions d other = at_all (HasItsVersions d) d.objects i other sound.objects at in
      record {
        count = has.count;
        current = all_at (Stands after_put Standing.Current) other.versions
            (λ a n there.
            let c : Contains other.versions n = contains_at other.versions a n there in
            laid_kept d drawn rows dropped lays n (All-contains (Stands d Standing.Current) other.versions n has.current c) (not_dropped i other at apart n c));
      }

  -- each object has its versions
  put_right : (i : ℕ) (object : Object) → slice_get put_objects i ≡ Some object → HasItsVersions after_put object
  put_right i object at = by (cases_eq i place)
    where
      by : (i ≡ place) ⊎ (i ≡ place → ⊥) → HasItsVersions after_put object
      by (inl same) = subst (HasItsVersions after_put) (same_Some new object (sym put_there.here ∙ ap (slice_get put_objects) (sym same) ∙ at)) new_right
      by (inr apart) = other_right i object (sym (put_there.other i apart) ∙ at) apart

  -- ---- no version stands twice
  drawn_once : (a b : ℕ) → a < length drawn → b < length drawn → get_or drawn a 0 ≡ get_or drawn b 0 → a ≡ b
  drawn_once a b in_a in_b e = by (cases_order a b)
    where
      by : (a ≡ b) ⊎ ((a < b) ⊎ (b < a)) → a ≡ b
      by (inl same) = same
      by (inr (inl less)) = absurd (can.differ a b 0 less in_b e)
      by (inr (inr more)) = absurd (can.differ b a 0 more in_a (sym e))

  -- two places of the new versions hold two versions
  origin_once : (a b n : ℕ) → Origin old drawn dropped can.comes.shift a n → Origin old drawn dropped can.comes.shift b n → a ≡ b
  origin_once a b n (inl h) (inl k) = old_once a b n h.0 k.0 h.1 k.1
  origin_once a b n (inl h) (inr k) =
      absurd (not_both n (can.is_drawn n (k.0, k.2, get_or_default drawn k.0 n 0 k.2 ∙ k.3)) (old_current n (a, h.0, get_or_default old a n 0 h.0 ∙ h.1)))
  origin_once a b n (inr h) (inl k) =
      absurd (not_both n (can.is_drawn n (h.0, h.2, get_or_default drawn h.0 n 0 h.2 ∙ h.3)) (old_current n (b, k.0, get_or_default old b n 0 k.0 ∙ k.1)))
  origin_once a b n (inr h) (inr k) = h.1 ∙ ap (λ m. can.comes.shift + m) (drawn_once h.0 k.0 h.2 k.2 (h.3 ∙ sym k.3)) ∙ sym k.1

  -- a version of the new object stands in no other
  new_apart : (j : ℕ) (other : Object) → slice_get d.objects j ≡ Some other → (j ≡ place → ⊥) → (a n : ℕ) → Origin old drawn dropped can.comes.shift a n → Contains other.versions n → ⊥
  new_apart j other at apart a n (inl h) c =
      let in_old : Contains old n = (a, h.0, get_or_default old a n 0 h.0 ∙ h.1) in
      let had : HadOld = old_object n in_old in
      apart (same_object d sound j place other had.object at had.at n c (subst (λ vs. Contains vs n) (sym had.same) in_old))
  new_apart j other at apart a n (inr h) c = not_both n (can.is_drawn n (h.0, h.2, get_or_default drawn h.0 n 0 h.2 ∙ h.3)) (version_current d sound j other at n c)

  -- so no version stands twice
  put_once : StandsOnce after_put
  put_once i j a b o p at_i at_j in_o in_p e = by (cases_eq i place) (cases_eq j place)
    where
      is_new : (m : ℕ) (object : Object) → slice_get put_objects m ≡ Some object → m ≡ place → new ≡ object
      is_new m object at same = same_Some new object (sym put_there.here ∙ ap (slice_get put_objects) (sym same) ∙ at)

      new_at : (m c : ℕ) (object : Object) → slice_get put_objects m ≡ Some object → m ≡ place → c < length object.versions → Origin old drawn dropped can.comes.shift c (get_or object.versions c 0)
      new_at m c object at same within =
          subst (λ (x : Object). c < length x.versions → Origin old drawn dropped can.comes.shift c (get_or x.versions c 0)) (is_new m object at same) (can.comes.origin c) within

      by : (i ≡ place) ⊎ (i ≡ place → ⊥) → (j ≡ place) ⊎ (j ≡ place → ⊥) → (i ≡ j) × (a ≡ b)
      by (inl s) (inl t) =
          (s ∙ sym t, origin_once a b (get_or o.versions a 0) (new_at i a o at_i s in_o) (subst (Origin old drawn dropped can.comes.shift b) (sym e) (new_at j b p at_j t in_p)))
      by (inl s) (inr t) =
          absurd (new_apart j p (sym (put_there.other j t) ∙ at_j) t a (get_or o.versions a 0) (new_at i a o at_i s in_o) (subst (Contains p.versions) (sym e) (Contains-get_or p.versions b 0 in_p)))
      by (inr s) (inl t) =
          absurd (new_apart i o (sym (put_there.other i s) ∙ at_i) s b (get_or p.versions b 0) (new_at j b p at_j t in_p) (subst (Contains o.versions) e (Contains-get_or o.versions a 0 in_o)))
      by (inr s) (inr t) = sound.once i j a b o p (sym (put_there.other i s) ∙ at_i) (sym (put_there.other j t) ∙ at_j) in_o in_p e

  -- ---- each current version stands in an object
  put_listed : Listed after_put
  put_listed n h = by (laid_back d drawn rows dropped lays n h)
    where
      in_new : Contains new.versions n → (i : ℕ) × (i < length put_objects) × IfSome (slice_get put_objects i) (λ object. IsTrue (is_among n object.versions))
      in_new c = listed_there after_put n place new put_there.here c

      from : Stands d Standing.Current n → is_among n dropped ≡ false → (i : ℕ) × (i < length put_objects) × IfSome (slice_get put_objects i) (λ object. IsTrue (is_among n object.versions))
      from current kept = at_place (cases_eq there.place place)
        where
          there : StandsAt d n
          there = where_it_stands d sound n current

          stays_in : Contains new.versions n ⊎ Contains dropped n → Contains new.versions n
          stays_in (inl c) = c
          stays_in (inr c) = absurd (true≢false (sym (among n dropped c) ∙ kept))

          at_place : (there.place ≡ place) ⊎ (there.place ≡ place → ⊥) → (i : ℕ) × (i < length put_objects) × IfSome (slice_get put_objects i) (λ object. IsTrue (is_among n object.versions))
          at_place (inl same) =
              let is : Some there.object ≡ found = sym there.at ∙ ap (slice_get d.objects) same ∙ put_there.was ∙ can.is_found in
              in_new (stays_in (can.comes.rest n (subst (λ f. Contains (versions_of f) n) is there.has)))
          at_place (inr apart) = listed_there after_put n there.place there.object (put_there.other there.place apart ∙ there.at) there.has

      by : Contains drawn n ⊎ (Stands d Standing.Current n × (is_among n dropped ≡ false)) → (i : ℕ) × (i < length put_objects) × IfSome (slice_get put_objects i) (λ object. IsTrue (is_among n object.versions))
      by (inl c) = in_new (can.comes.holds n c)
      by (inr k) = from k.0 k.1

  -- the directory stays sound, by what its point says
  pub object_put_sound : point.note.name ≡ new.name → is_change point.event ≡ true → FitsEvent point.event point.note.kind (apply_length d.max point.note (lengths_of d)).1
      → after_event point.event (lengths_of d) (apply_length d.max point.note (lengths_of d)).0 ≡ put_length new.name new.length (lengths_of d)
      → ((earlier : Point) → Contains d.points earlier → AreInOrder earlier point) → ((pass : Pass) → Contains d.passes pass → IsOfItsCall pass point) → IsSound after_put
  object_put_sound named changes marked moved order newest =
      added d put_objects put_versions point sound
      (record {
        moves = laid_moves d drawn rows dropped lays;
        history = replays_more d.max [] d.points (lengths_of d) point (lengths_in put_objects) sound.history marked (moved ∙ sym (lengths_put new d.objects));
        objects_right = all_at (HasItsVersions after_put) put_objects put_right;
        once = put_once;
        order = order;
        newest = newest;
        listed = put_listed;
        follows = change_follows d put_objects point changes (λ name apart. found_after_put name new d.objects (ap (bytes_eq name) (sym named) ∙ apart));
      })
