-- A delete that is answered ok keeps a directory sound.
use Rattle.std.proofs.Common.{◌≡◌, ◌⊎◌, ℕ, zero, suc, ◌+◌, ◌-◌, ◌<◌, ◌≤◌, true, false, cond, ◌&&◌, List, [], ◌∷◌, ◌++◌, length, slice_get, Option, None, Some, IfSome, Contains, IsTrue, bytes_eq, refl, sym, ap, subst, ◌∙◌, inl, inr, arith}
use Rattle.std.proofs.lemmas.Bool.{true≢false, cond-true, cond-false, cases_Bool, cases_lt, cases_order, and_left, and_from, false_from_ne_true}
use Rattle.std.proofs.lemmas.Option.{same_Some, none-some, slice_get_within}
use Rattle.std.proofs.lemmas.List.{get_or_default}
use Rattle.std.proofs.lemmas.List.Elements.{All-nil, All-contains}
use Rattle.store_core.specs.Placements.{IsRow}
use Rattle.store_core.specs.Lists.{is_among}
use Rattle.store_core.specs.Directory.{Object, Standing, Version, Pass, Point, Directory}
use Rattle.store_core.specs.Lookups.{find_object, last_change, is_change}
use Rattle.store_core.specs.Look.{set_standing, remove_object}
use Rattle.store_core.specs.Replay.{FitsEvent, after_event}
use Rattle.store_core.specs.Lengths.{apply_length}
use Rattle.store_core.specs.SoundPasses.{Stands, IsOfItsCall}
use Rattle.store_core.specs.Sound.{HasItsVersions, StandsOnce, AreInOrder, IsSound, lengths_of}
use Rattle.run_laws.proofs.SoundLists.{all_at, at_all, among, is_in, contains_at}
use Rattle.run_laws.proofs.SoundHistory.{last_more, replays_more}
use Rattle.run_laws.proofs.SoundAdds.{Listed, Follows, with_point, added}
use Rattle.run_laws.proofs.SoundLaid.{CanBeLaid, laid_moves, laid_kept, laid_back}
use Rattle.run_laws.proofs.SoundObjects.{lengths_in, RemovedAt, removed_at, found_after_removal}

-- ---- a change of one object, as the calls on it and on others see it
pub change_follows : (d : Directory) (objects : List Object) (point : Point) → is_change point.event ≡ true
    → ((name : List ℕ) → bytes_eq name point.note.name ≡ false → find_object name objects ≡ find_object name d.objects) → (name : List ℕ) → Follows d objects point name
change_follows d objects point changes others name = by (cases_Bool (bytes_eq name point.note.name))
  where
    last : last_change name (d.points ++ point ∷ []) ≡ cond (bytes_eq name point.note.name && is_change point.event) (Some (0 + length d.points)) (last_change name d.points)
    last = last_more name 0 None d.points point

    by : (bytes_eq name point.note.name ≡ true) ⊎ (bytes_eq name point.note.name ≡ false) → Follows d objects point name
    by (inl same) =
        inr (last ∙ cond-true (bytes_eq name point.note.name && is_change point.event) (Some (0 + length d.points)) (last_change name d.points) (and_from (bytes_eq name point.note.name) (is_change point.event) same changes)
        ∙ ap Some (omega arith))
    by (inr apart) =
        inl (
          last ∙ cond-false (bytes_eq name point.note.name && is_change point.event) (Some (0 + length d.points)) (last_change name d.points) (and_left (bytes_eq name point.note.name) (is_change point.event) apart),
          others name apart,
        )

-- ---- an object's version by its place
-- a version of an object stands as current
pub version_current : (d : Directory) → IsSound d → (i : ℕ) (object : Object) → slice_get d.objects i ≡ Some object → (n : ℕ) → Contains object.versions n → Stands d Standing.Current n
version_current d sound i object at n c = All-contains (Stands d Standing.Current) object.versions n (at_all (HasItsVersions d) d.objects i object sound.objects at).current c

-- a version that stands in two objects stands in one
pub same_object : (d : Directory) → IsSound d → (i j : ℕ) (o p : Object) → slice_get d.objects i ≡ Some o → slice_get d.objects j ≡ Some p → (n : ℕ) → Contains o.versions n → Contains p.versions n → i ≡ j
same_object d sound i j o p at_i at_j n in_o in_p =
    (sound.once i j in_o.0 in_p.0 o p at_i at_j in_o.1 in_p.1 (get_or_default o.versions in_o.0 0 n in_o.1 ∙ in_o.2 ∙ sym in_p.2 ∙ get_or_default p.versions in_p.0 n 0 in_p.1)).0

-- a version that stands in an object is listed
pub listed_there : (d : Directory) (n i : ℕ) (object : Object) → slice_get d.objects i ≡ Some object → Contains object.versions n
    → (i : ℕ) × (i < length d.objects) × IfSome (slice_get d.objects i) (λ object. IsTrue (is_among n object.versions))
listed_there d n i object at c =
    (i, slice_get_within d.objects i object at, subst (λ (o : Option Object). IfSome o (λ object. IsTrue (is_among n object.versions))) (sym at) (among n object.versions c))

-- the object in which a current version stands
pub record StandsAt (d : Directory) (n : ℕ) : Type 0 where
  pub place : ℕ
  pub object : Object
  pub at : slice_get d.objects place ≡ Some object
  pub has : Contains object.versions n

-- each current version stands in one
pub where_it_stands : (d : Directory) → IsSound d → (n : ℕ) → Stands d Standing.Current n → StandsAt d n
where_it_stands d sound n h = by (slice_get d.objects there.0) refl there.2
  where
    there : (i : ℕ) × (i < length d.objects) × IfSome (slice_get d.objects i) (λ object. IsTrue (is_among n object.versions))
    there = sound.listed n h

    gone : slice_get d.objects there.0 ≡ None → ⊥
    gone e = absurd_past d.objects there.0 there.1 e
      where
        absurd_past : (objects : List Object) (i : ℕ) → i < length objects → slice_get objects i ≡ None → ⊥
        absurd_past [] i less e = omega (arith, less)
        absurd_past (o ∷ objects) zero less e = none-some o (sym e)
        absurd_past (o ∷ objects) (suc i) less e = absurd_past objects i (let more : suc i < suc (length objects) = less in omega (arith, more)) e

    by : (found : Option Object) → slice_get d.objects there.0 ≡ found → IfSome found (λ object. IsTrue (is_among n object.versions)) → StandsAt d n
    by None e h = absurd (gone e)
    by (Some object) e h = record { place = there.0; object = object; at = e; has = is_in n object.versions h }

-- ---- the object that is removed
module _ (d : Directory) (sound : IsSound d) (object : Object) (found : find_object object.name d.objects ≡ Some object) (point : Point) where
  -- the place from which it goes
  gone_at : RemovedAt d.objects (remove_object object.name d.objects) (find_object object.name d.objects)
  gone_at = removed_at object.name d.objects

  -- by its number
  abbrev place : ℕ
  place = gone_at.place

  -- the objects after
  abbrev left_objects : List Object
  left_objects = remove_object object.name d.objects

  -- the versions after
  abbrev left_versions : List Version
  left_versions = set_standing Standing.Superseded object.versions d.versions

  -- the directory after
  abbrev after_delete : Directory
  after_delete = with_point d left_objects left_versions point

  -- it stood there
  stood : slice_get d.objects place ≡ Some object
  stood = gone_at.was ∙ found

  -- its versions can be dropped
  can : CanBeLaid d [] [] object.versions
  can =
      record {
        is_drawn = λ n c. absurd (let less : c.0 < 0 = c.1 in omega (arith, less));
        is_current = version_current d sound place object stood;
        one_each = refl;
        whole = All-nil (IsRow d.shape);
        left = λ _ _ _ n c _. absurd (let less : c.0 < 0 = c.1 in omega (arith, less));
      }

  -- where an object that is left stood before
  record Stood (i : ℕ) (other : Object) : Type 0 where
    before : ℕ
    at : slice_get d.objects before ≡ Some other
    apart : before ≡ place → ⊥
    shift : ((i < place) × (before ≡ i)) ⊎ ((place ≤ i) × (before ≡ suc i))

  -- each object that is left stood somewhere else
  stood_before : (i : ℕ) (other : Object) → slice_get left_objects i ≡ Some other → Stood i other
  stood_before i other at = by (cases_lt i place)
    where
      by : (i < place) ⊎ (place ≤ i) → Stood i other
      by (inl less) = record { before = i; at = sym (gone_at.before i less) ∙ at; apart = λ e. omega (arith, e, less); shift = inl (less, refl) }
      by (inr more) = record { before = suc i; at = sym (gone_at.after i more) ∙ at; apart = λ e. omega (arith, e, more); shift = inr (more, refl) }

  -- two that stood at one place stand at one place
  same_place : (i j a b : ℕ) → ((i < place) × (a ≡ i)) ⊎ ((place ≤ i) × (a ≡ suc i)) → ((j < place) × (b ≡ j)) ⊎ ((place ≤ j) × (b ≡ suc j)) → a ≡ b → i ≡ j
  same_place i j a b (inl h) (inl k) e = let f : a ≡ i = h.1 in let g : b ≡ j = k.1 in omega (arith, e, f, g)
  same_place i j a b (inl h) (inr k) e = let f : a ≡ i = h.1 in let g : b ≡ suc j = k.1 in let low : i < place = h.0 in let high : place ≤ j = k.0 in omega (arith, e, f, g, low, high)
  same_place i j a b (inr h) (inl k) e = let f : a ≡ suc i = h.1 in let g : b ≡ j = k.1 in let low : j < place = k.0 in let high : place ≤ i = h.0 in omega (arith, e, f, g, low, high)
  same_place i j a b (inr h) (inr k) e = let f : a ≡ suc i = h.1 in let g : b ≡ suc j = k.1 in omega (arith, e, f, g)

  -- another object's version isn't one of the removed object's
  not_its : (before : ℕ) (other : Object) → slice_get d.objects before ≡ Some other → (before ≡ place → ⊥) → (n : ℕ) → Contains other.versions n → is_among n object.versions ≡ false
  not_its before other at apart n c =
      false_from_ne_true (is_among n object.versions) (λ e. apart (same_object d sound before place other object at stood n c (is_in n object.versions e)))

  -- each object that is left has its versions
  left_right : (i : ℕ) (other : Object) → slice_get left_objects i ≡ Some other → HasItsVersions after_delete other
  left_right i other at =
      let old : Stood i other = stood_before i other at in
      let has : HasItsVersions d other = at_all (HasItsVersions d) d.objects old.before other sound.objects old.at in
      record {
        count = has.count;
        current = all_at (Stands after_delete Standing.Current) other.versions
            (λ a n there.
            let c : Contains other.versions n = contains_at other.versions a n there in
            laid_kept d [] [] object.versions can n (All-contains (Stands d Standing.Current) other.versions n has.current c) (not_its old.before other old.at old.apart n c));
      }

  -- and no version stands twice
  left_once : StandsOnce after_delete
  left_once i j a b o p at_i at_j in_o in_p e =
      let old_o : Stood i o = stood_before i o at_i in
      let old_p : Stood j p = stood_before j p at_j in
      let same : (old_o.before ≡ old_p.before) × (a ≡ b) = sound.once old_o.before old_p.before a b o p old_o.at old_p.at in_o in_p e in
      (same_place i j old_o.before old_p.before old_o.shift old_p.shift same.0, same.1)

  -- and each current version stands in one of them
  left_listed : Listed after_delete
  left_listed n h = by (laid_back d [] [] object.versions can n h)
    where
      from : Stands d Standing.Current n → is_among n object.versions ≡ false → (i : ℕ) × (i < length left_objects) × IfSome (slice_get left_objects i) (λ object. IsTrue (is_among n object.versions))
      from current other = place_of (cases_order there.place place)
        where
          there : StandsAt d n
          there = where_it_stands d sound n current

          place_of : (there.place ≡ place) ⊎ ((there.place < place) ⊎ (place < there.place)) → (i : ℕ) × (i < length left_objects) × IfSome (slice_get left_objects i) (λ object. IsTrue (is_among n object.versions))
          place_of (inl same) =
              let its : there.object ≡ object = same_Some there.object object (sym there.at ∙ ap (slice_get d.objects) same ∙ stood) in
              absurd (true≢false (sym (among n object.versions (subst (λ (o : Object). Contains o.versions n) its there.has)) ∙ other))
          place_of (inr (inl less)) = listed_there after_delete n there.place there.object (gone_at.before there.place less ∙ there.at) there.has
          place_of (inr (inr more)) =
              let back : suc (there.place - 1) ≡ there.place = omega (arith, more) in
              listed_there after_delete n (there.place - 1) there.object (gone_at.after (there.place - 1) (omega (arith, more)) ∙ ap (slice_get d.objects) back ∙ there.at) there.has

      by : Contains [] n ⊎ (Stands d Standing.Current n × (is_among n object.versions ≡ false)) → (i : ℕ) × (i < length left_objects) × IfSome (slice_get left_objects i) (λ object. IsTrue (is_among n object.versions))
      by (inl c) = absurd (let less : c.0 < 0 = c.1 in omega (arith, less))
      by (inr k) = from k.0 k.1

  -- the directory stays sound, by what its point says
  pub deleted_sound : point.note.name ≡ object.name → is_change point.event ≡ true → FitsEvent point.event point.note.kind (apply_length d.max point.note (lengths_of d)).1
      → after_event point.event (lengths_of d) (apply_length d.max point.note (lengths_of d)).0 ≡ lengths_in left_objects
      → ((earlier : Point) → Contains d.points earlier → AreInOrder earlier point) → ((pass : Pass) → Contains d.passes pass → IsOfItsCall pass point) → IsSound after_delete
  deleted_sound named changes marked moved order newest =
      added d left_objects left_versions point sound
      (record {
        moves = laid_moves d [] [] object.versions can;
        history = replays_more d.max [] d.points (lengths_of d) point (lengths_in left_objects) sound.history marked moved;
        objects_right = all_at (HasItsVersions after_delete) left_objects left_right;
        once = left_once;
        order = order;
        newest = newest;
        listed = left_listed;
        follows = change_follows d left_objects point changes (λ name apart. found_after_removal name object.name d.objects (ap (bytes_eq name) (sym named) ∙ apart));
      })
