-- The map that a snapshot stands for.
use Rattle.std.proofs.Common.{◌≡◌, ℕ, ◌-◌, ◌<◌, Bool, true, false, ◌||◌, List, [], ◌∷◌, length, map, get_or, slice_get, cond, find, bytes_eq, Option, None, Some, option_map, is_some, All, refl, sym, ap, ◌∙◌, arith}
use Rattle.std.specs.List.{list_any, range_with_len}
use Rattle.std.proofs.lemmas.Bool.{true≢false}
use Rattle.std.proofs.lemmas.Option.{same_Some, none-some, get_or_from_slice_get, slice_get-map}
use Rattle.std.proofs.lemmas.List.{length-map, get_or-map}
use Rattle.std.proofs.lemmas.List.FromFn.{fill_by_all, length-range_with_len}
use Rattle.std.proofs.lemmas.List.Folds.{list_any_at}
use Rattle.clay_grid.specs.Shape.{Shape, chunk_count, stripe_length}
use Rattle.clay_model.specs.Code.{stripes_of}
use Rattle.store_map.specs.Limits.{stripes_met}
use Rattle.store_map.specs.PlainMap.{Objects, bytes_of}
use Rattle.store_core.specs.Told.{Seen as CoreSeen}
use Rattle.store_core.specs.Directory.{Object}
use Rattle.store_core.specs.Lookups.{find_object}
use Rattle.store_core.specs.Look.{seen_at, stripes_between}
use Rattle.store_core.specs.Lengths.{length_in}
use Rattle.store_core.specs.Sound.{IsSound, HasItsVersions}
use Rattle.store_core.specs.Calls.{Calls}
use Rattle.run_laws.proofs.SoundLists.{at_all, found_at}
use Rattle.run_laws.proofs.SoundHistory.{same_name, self_name}
use Rattle.run_laws.proofs.SoundObjects.{length_found}
use Rattle.run_laws.specs.MapAfter.{map_by}
use Rattle.run_laws.proofs.LengthProofs.{length_of_found}
use Rattle.run_laws.proofs.Replayed.{replayed}
use Rattle.run_laws.specs.Contents.{HasBytes}
use Rattle.run_laws.proofs.Maps.{entry_of, at, map_same, stored_found, cut_found}
use Rattle.run_laws.proofs.KeptDraw.{map_map}
use Rattle.run_laws.proofs.Laid.{zero_div}
use Rattle.version_seal.specs.Entry.{BookOf, StampOf}
use Rattle.call_steps.specs.declared.seen.Seen.{Seen}
use Rattle.stripe_stamps.specs.SeenStripes.{seen_in}
use Rattle.stripe_stamps.specs.SeenStripes.{IsSeenIn}
use Rattle.stripe_stamps.specs.Sealed.{Sealed}
use Rattle.stripe_stamps.specs.Stamped.{HaveContents}
use Rattle.stripe_stamps.proofs.StampSteps.{stamps_hold_the_bytes_of_the_map}
use Rattle.snapshot_view.specs.Snapshots.{KeptOf, find_kept, stored_kept}
use Rattle.snapshot_view.specs.LookSteps.{IsAsFound}
use Rattle.snapshot_view.specs.Inside.{IsOfBook}

-- ---- what is found under a name
-- something, where the name is among the names
pub some_named : {X : Type 0} (f : X → List ℕ) (name : List ℕ) (xs : List X) → is_some (find (λ x. bytes_eq name (f x)) xs) ≡ list_any (bytes_eq name) (map f xs)
some_named f name [] = refl
some_named f name (x ∷ xs) = by (bytes_eq name (f x)) (some_named f name xs)
  where
    by : (b : Bool) → is_some (find (λ y. bytes_eq name (f y)) xs) ≡ list_any (bytes_eq name) (map f xs)
        → is_some (cond b (Some x) (find (λ y. bytes_eq name (f y)) xs)) ≡ (b || list_any (bytes_eq name) (map f xs))
    by true rest = refl
    by false rest = rest

pub none_by : {X : Type 0} (found : Option X) → is_some found ≡ false → found ≡ None
none_by None e = refl
none_by (Some x) e = absurd (true≢false e)

pub some_by : {X : Type 0} (found : Option X) → is_some found ≡ true → (x : X) × (found ≡ Some x)
some_by None e = absurd (true≢false (sym e))
some_by (Some x) e = (x, refl)

-- two readings of what is found
both : {X Y A B : Type 0} (f : X → A) (g : X → B) (f2 : Y → A) (g2 : Y → B) (x : Option X) (y : Option Y) → option_map f x ≡ option_map f2 y → option_map g x ≡ option_map g2 y
    → option_map (λ v. let pair : A × B = (f v, g v) in pair) x ≡ option_map (λ w. let pair : A × B = (f2 w, g2 w) in pair) y
both f g f2 g2 None None e h = refl
both f g f2 g2 None (Some w) e h = absurd (none-some (f2 w) e)
both f g f2 g2 (Some v) None e h = absurd (none-some (f v) (sym e))
both f g f2 g2 (Some v) (Some w) e h = λ i. Some (same_Some (f v) (f2 w) e i, same_Some (g v) (g2 w) h i)

-- ---- an object that is kept
-- a stamp's content stands among all contents
own_content : (stamps : List StampOf) (seen : Seen) → IsSeenIn stamps seen → seen.stamp.content ≡ at (map (λ stamp. stamp.content) stamps) seen.stamp.version
own_content stamps seen own =
    sym (get_or_from_slice_get (map (λ (stamp : StampOf). stamp.content) stamps) seen.stamp.version seen.stamp.content []
    (slice_get-map (λ (stamp : StampOf). stamp.content) stamps seen.stamp.version ∙ ap (option_map (λ (stamp : StampOf). stamp.content)) own))

-- an object's stripes by their numbers
pub numbers_there : (g : Shape) (some : 0 < stripe_length g) (long count : ℕ) → count ≡ stripes_met (stripe_length g) 0 long → stripes_between g 0 long ≡ range_with_len 0 count
numbers_there g some long count e = (λ i. range_with_len (zero_div (stripe_length g) some i) (stripes_met (stripe_length g) 0 (same i))) ∙ ap (range_with_len 0) (sym e)
  where
    same : long - 0 ≡ long
    same = omega arith

module _ (s : Sealed) (sound : IsSound s.core) (some : 0 < stripe_length s.core.shape) where
  abbrev contents : List (List ℕ)
  contents = map (λ stamp. stamp.content) s.stamps

  abbrev stored_object : Object → List (List ℕ) × ℕ
  stored_object object = (map (at contents) object.versions, object.length)

  its : (name : List ℕ) (object : Object) → find_object name s.core.objects ≡ Some object → HasItsVersions s.core object
  its name object found =
      let place : (i : ℕ) × (slice_get s.core.objects i ≡ Some object) × (bytes_eq name object.name ≡ true) = found_at (λ (o : Object). bytes_eq name o.name) s.core.objects object found in
      at_all (HasItsVersions s.core) s.core.objects place.0 object sound.objects place.1

  module _ (kept : KeptOf) (is : IsAsFound s kept) where
    abbrev numbers : List ℕ
    numbers = stripes_between s.core.shape 0 is.object.length

    counted : length is.object.versions ≡ stripes_met (stripe_length s.core.shape) 0 is.object.length
    counted = (its kept.name is.object is.found).count

    by_number : map (λ i. at contents (get_or is.object.versions i 0)) numbers ≡ map (at contents) is.object.versions
    by_number =
        ap (map (λ i. at contents (get_or is.object.versions i 0))) (numbers_there s.core.shape some is.object.length (length is.object.versions) counted)
        ∙ sym (fill_by_all (λ i. at contents (get_or is.object.versions i 0)) (map (at contents) is.object.versions) (length is.object.versions) [] (length-map is.object.versions (at contents))
        (λ k less. get_or-map (at contents) is.object.versions k 0 [] less))

    contents_kept : map (λ seen. seen.stamp.content) kept.stripes ≡ map (at contents) is.object.versions
    contents_kept =
        map_same (λ (seen : Seen). seen.stamp.content) (λ (seen : Seen). at contents seen.stamp.version) kept.stripes (λ k x less. own_content s.stamps (get_or kept.stripes k x) (is.shown k x less).own)
        ∙ sym (map_map (λ (seen : CoreSeen). at contents seen.version) seen_in kept.stripes)
        ∙ ap (map (λ (seen : CoreSeen). at contents seen.version)) is.stripes
        ∙ map_map (λ (seen : CoreSeen). at contents seen.version) (seen_at s.core is.object) numbers
        ∙ by_number

    stored_is : stored_kept kept ≡ stored_object is.object
    stored_is = λ i. (contents_kept i, is.long i)

  -- ---- all that are kept
  module _ (kept : List KeptOf) (all : All (IsAsFound s) kept) (names : map (λ (k : KeptOf). k.name) kept ≡ map (λ (o : Object). o.name) s.core.objects) where
    by_found : (name : List ℕ) (found : Option KeptOf) → find_kept name kept ≡ found → option_map stored_kept found ≡ option_map stored_object (find_object name s.core.objects)
    by_found name (Some one) e =
        let place : (i : ℕ) × (slice_get kept i ≡ Some one) × (bytes_eq name one.name ≡ true) = found_at (λ (k : KeptOf). bytes_eq name k.name) kept one e in
        let is : IsAsFound s one = at_all (IsAsFound s) kept place.0 one all place.1 in
        ap Some (stored_is one is) ∙ sym (ap (option_map stored_object) (ap (λ m. find_object m s.core.objects) (same_name name one.name place.2) ∙ is.found))
    by_found name None e =
        sym (ap (option_map stored_object) (none_by (find_object name s.core.objects)
        (some_named (λ (o : Object). o.name) name s.core.objects ∙ ap (list_any (bytes_eq name)) (sym names) ∙ sym (some_named (λ (k : KeptOf). k.name) name kept) ∙ ap is_some e)))

    pub stands : (g : Shape) → g ≡ s.core.shape → (calls : Calls) → HasBytes calls s.core → HaveContents calls s → (name : List ℕ)
        → option_map stored_kept (find_kept name kept)
        ≡ option_map (λ bytes. let pair : List (List ℕ) × ℕ = (stripes_of g bytes, length bytes) in pair) (bytes_of name (map_by calls s.core.max s.core.points))
    stands g code calls has have name =
        by_found name (find_kept name kept) refl
        ∙ both (λ (o : Object). map (at contents) o.versions) (λ (o : Object). o.length) (stripes_of s.core.shape) length (find_object name s.core.objects) (bytes_of name objects) bytes_there sizes
        ∙ ap (λ g. option_map (λ (bytes : List ℕ). let pair : List (List ℕ) × ℕ = (stripes_of g bytes, length bytes) in pair) (bytes_of name objects)) (sym code)
      where
        objects : Objects
        objects = map_by calls s.core.max s.core.points

        bytes_there : option_map (λ (o : Object). map (at contents) o.versions) (find_object name s.core.objects) ≡ option_map (stripes_of s.core.shape) (bytes_of name objects)
        bytes_there = sym (stored_found contents name s.core.objects) ∙ ap (entry_of name) (stamps_hold_the_bytes_of_the_map calls s has have) ∙ cut_found s.core.shape name objects

        sizes : option_map (λ (o : Object). o.length) (find_object name s.core.objects) ≡ option_map length (bytes_of name objects)
        sizes = length_found name s.core.objects ∙ ap (length_in name) (sym (replayed calls s.core sound has.points)) ∙ length_of_found name objects

-- an object that is listed is there
pub found_named : (name : List ℕ) (objects : List Object) (names : List (List ℕ)) (at : ℕ) → names ≡ map (λ (o : Object). o.name) objects → at < length names → name ≡ get_or names at name
    → (object : Object) × (find_object name objects ≡ Some object)
found_named name objects names at listed within is =
    some_by (find_object name objects)
    (some_named (λ (o : Object). o.name) name objects ∙ ap (list_any (bytes_eq name)) (sym listed)
    ∙ list_any_at (bytes_eq name) names at name within (sym (ap (bytes_eq name) is) ∙ self_name name))

-- ---- the stripes of an object that is kept
same_numbers : (xs : List ℕ) → map (λ i. i) xs ≡ xs
same_numbers [] = refl
same_numbers (x ∷ xs) = ap (λ l. x ∷ l) (same_numbers xs)

pub of_book : (s : Sealed) → 0 < stripe_length s.core.shape → s.book.geometry ≡ s.core.shape → (book : BookOf) → book ≡ s.book → (kept : KeptOf) → IsAsFound s kept → IsOfBook book kept
of_book s some code book same kept is = record {
  numbered =
      sym (map_map (λ (c : CoreSeen). c.stripe) seen_in kept.stripes) ∙ ap (map (λ (c : CoreSeen). c.stripe)) is.stripes
      ∙ map_map (λ (c : CoreSeen). c.stripe) (seen_at s.core is.object) numbers ∙ same_numbers numbers ∙ by_number
      ∙ ap (range_with_len 0) (sym count);
  pinned = λ k x less.
      let shown = is.shown k x less in
      record { placed = shown.row.whole ∙ ap chunk_count (sym code) ∙ ap (λ (b : BookOf). chunk_count b.geometry) (sym same); home = shown.home ∙ ap (λ (b : BookOf). b.home) (sym same) };
}
  where
    numbers : List ℕ
    numbers = stripes_between s.core.shape 0 is.object.length

    by_number : stripes_between s.core.shape 0 is.object.length ≡ range_with_len 0 (stripes_met (stripe_length s.core.shape) 0 is.object.length)
    by_number = numbers_there s.core.shape some is.object.length (stripes_met (stripe_length s.core.shape) 0 is.object.length) refl

    count : length kept.stripes ≡ stripes_met (stripe_length s.core.shape) 0 is.object.length
    count =
        sym (length-map kept.stripes seen_in) ∙ ap length is.stripes ∙ length-map (stripes_between s.core.shape 0 is.object.length) (seen_at s.core is.object) ∙ ap length by_number
        ∙ length-range_with_len 0 (stripes_met (stripe_length s.core.shape) 0 is.object.length)
