-- What the sweeper takes stands for no live number.
use Rattle.std.proofs.Common.{◌≡◌, ◌⊎◌, ℕ, zero, suc, ◌+◌, ◌<◌, Bool, true, false, not, ◌&&◌, ◌||◌, cond, List, [], ◌∷◌, ◌++◌, length, map, find, flat_map, slice_get, Option, None, Some, option_map, All, IfSome, IsTrue, refl, sym, ap, subst, ◌∙◌, inl, inr, arith}
use Rattle.std.specs.List.{enumerate_from}
use Rattle.std.proofs.lemmas.Bool.{true≢false, and_parts, or_left, or_right, or_cases, eq-eqb}
use Rattle.std.proofs.lemmas.Option.{same_Some, none-some}
use Rattle.std.proofs.lemmas.List.Elements.{All-contains}
use Rattle.store_map.specs.PlainMap.{Objects}
use Rattle.store_core.specs.Lists.{is_among}
use Rattle.store_core.specs.Directory.{Object, Standing, Version, Directory}
use Rattle.store_core.specs.Lookups.{is_pinned, is_superseded_standing}
use Rattle.store_core.specs.SoundPasses.{Stands}
use Rattle.store_core.specs.Sound.{HasItsVersions}
use Rattle.run_laws.proofs.SoundLists.{is_in}
use Rattle.session_rules.specs.Seen.{version_of, all_numbers, snapshot_numbers, versions_under, stood_under}
use Rattle.session_rules.specs.Sweeps.{GarbageIsUnseen}
use Rattle.session_rules.proofs.Lists.{all_head, all_tail}
use Rattle.session_rules.proofs.Counting.{among_append}

abbrev pub is_free : Directory → ℕ × Version → Bool
is_free d entry = is_superseded_standing entry.1.standing && not (is_pinned d entry.0)

-- what is found passes the test, and stands at its number
pub found_free : (d : Directory) (start : ℕ) (vs : List Version) (entry : ℕ × Version) → find (is_free d) (enumerate_from start vs) ≡ Some entry →
    (is_free d entry ≡ true) × ((i : ℕ) × (entry.0 ≡ start + i) × (slice_get vs i ≡ Some entry.1))
found_free d start [] entry e = absurd (none-some entry e)
found_free d start (x ∷ vs) entry e = by (is_free d (start, x)) refl e (found_free d (start + 1) vs entry)
  where
    by : (b : Bool) → is_free d (start, x) ≡ b → (let here : Option (ℕ × Version) = Some (start, x) in cond b here (find (is_free d) (enumerate_from (start + 1) vs))) ≡ Some entry →
        (find (is_free d) (enumerate_from (start + 1) vs) ≡ Some entry → (is_free d entry ≡ true) × ((i : ℕ) × (entry.0 ≡ start + 1 + i) × (slice_get vs i ≡ Some entry.1))) →
        (is_free d entry ≡ true) × ((i : ℕ) × (entry.0 ≡ start + i) × (slice_get (x ∷ vs) i ≡ Some entry.1))
    by true is e rest =
        let same : (start, x) ≡ entry = same_Some {A = ℕ × Version} (start, x) entry e in
        let place : start ≡ entry.0 = ap (λ (pair : ℕ × Version). pair.0) same in
        (ap (is_free d) (sym same) ∙ is, (0, omega (arith, place), ap (λ (pair : ℕ × Version). Some pair.1) same))
    by false is e rest =
        let r : (is_free d entry ≡ true) × ((i : ℕ) × (entry.0 ≡ start + 1 + i) × (slice_get vs i ≡ Some entry.1)) = rest e in
        let place : entry.0 ≡ start + 1 + r.1.0 = r.1.1 in
        (r.0, (suc r.1.0, omega (arith, place), r.1.2))

-- the versions of objects are current
pub current_in : (d : Directory) (objects : List Object) (v : ℕ) → All (HasItsVersions d) objects → is_among v (flat_map (λ object. object.versions) objects) ≡ true → Stands d Standing.Current v
current_in d [] v all e = absurd (true≢false (sym e))
current_in d (object ∷ objects) v all e = by (or_cases (is_among v object.versions) (is_among v (flat_map (λ object. object.versions) objects)) (sym (among_append v object.versions (flat_map (λ (object : Object). object.versions) objects)) ∙ e))
    (current_in d objects v (all_tail (HasItsVersions d) object objects all))
  where
    by : (is_among v object.versions ≡ true) ⊎ (is_among v (flat_map (λ object. object.versions) objects) ≡ true) → (is_among v (flat_map (λ object. object.versions) objects) ≡ true → Stands d Standing.Current v) → Stands d Standing.Current v
    by (inl here) rest = All-contains (Stands d Standing.Current) object.versions v (all_head (HasItsVersions d) object objects all).current (is_in v object.versions here)
    by (inr later) rest = rest later

-- the version of a number is among those of the numbers
among_map : (f : ℕ → ℕ) (x : ℕ) (ns : List ℕ) → is_among x ns ≡ true → is_among (f x) (map f ns) ≡ true
among_map f x [] e = absurd (true≢false (sym e))
among_map f x (n ∷ ns) e = by (or_cases _ _ e) (among_map f x ns)
  where
    by : (Rattle.std.proofs.Common.nat_eq x n ≡ true) ⊎ (is_among x ns ≡ true) → (is_among x ns ≡ true → is_among (f x) (map f ns) ≡ true) → (Rattle.std.proofs.Common.nat_eq (f x) (f n) || is_among (f x) (map f ns)) ≡ true
    by (inl same) rest = or_left _ _ (eq-eqb (f x) (f n) (ap f (Rattle.std.proofs.lemmas.Bool.eqb-true x n same)))
    by (inr later) rest = or_right _ _ (rest later)

among_stood : (stands : List ℕ) (x : ℕ) (numbers : Objects) → is_among x (flat_map (λ object. object.1) numbers) ≡ true →
    is_among (version_of stands x) (flat_map (λ object. object.1) (map (stood_under stands) numbers)) ≡ true
among_stood stands x [] e = absurd (true≢false (sym e))
among_stood stands x (object ∷ numbers) e =
    by (or_cases (is_among x object.1) (is_among x (flat_map (λ object. object.1) numbers)) (sym (among_append x object.1 (flat_map (λ (object : List ℕ × List ℕ). object.1) numbers)) ∙ e)) (among_stood stands x numbers)
  where
    by : (is_among x object.1 ≡ true) ⊎ (is_among x (flat_map (λ object. object.1) numbers) ≡ true) →
        (is_among x (flat_map (λ object. object.1) numbers) ≡ true → is_among (version_of stands x) (flat_map (λ object. object.1) (map (stood_under stands) numbers)) ≡ true) →
        is_among (version_of stands x) (map (version_of stands) object.1 ++ flat_map (λ object. object.1) (map (stood_under stands) numbers)) ≡ true
    by (inl here) rest = among_append (version_of stands x) (map (version_of stands) object.1) (flat_map (λ (object : List ℕ × List ℕ). object.1) (map (stood_under stands) numbers)) ∙ or_left _ _ (among_map (version_of stands) x object.1 here)
    by (inr later) rest = among_append (version_of stands x) (map (version_of stands) object.1) (flat_map (λ (object : List ℕ × List ℕ). object.1) (map (stood_under stands) numbers)) ∙ or_right _ _ (rest later)

pub flat_versions : (objects : List Object) → flat_map (λ object. object.1) (map versions_under objects) ≡ flat_map (λ object. object.versions) objects
flat_versions [] = refl
flat_versions (object ∷ objects) = ap (λ l. object.versions ++ l) (flat_versions objects)

pub garbage_is_unseen : GarbageIsUnseen
garbage_is_unseen g max stands p s version h pinned garbage = λ number live same. by number same (or_cases (is_among number (all_numbers s.numbers)) (is_among number (snapshot_numbers s.snapshot)) (sym (among_append number (all_numbers s.numbers) (snapshot_numbers s.snapshot)) ∙ live))
  where
    found : (entry : ℕ × Version) × (find (is_free p.directory) (enumerate_from 0 p.directory.versions) ≡ Some entry) × (entry.0 ≡ version)
    found = Rattle.session_rules.proofs.Names.is_some_by (λ (entry : ℕ × Version). entry.0) (find (is_free p.directory) (enumerate_from 0 p.directory.versions)) version garbage

    free : (is_free p.directory found.0 ≡ true) × ((i : ℕ) × (found.0.0 ≡ 0 + i) × (slice_get p.directory.versions i ≡ Some found.0.1))
    free = found_free p.directory 0 p.directory.versions found.0 found.1

    both : (is_superseded_standing found.0.1.standing ≡ true) × (not (is_pinned p.directory found.0.0) ≡ true)
    both = and_parts (is_superseded_standing found.0.1.standing) (not (is_pinned p.directory found.0.0)) free.0

    place : free.1.0 ≡ version
    place = let a : found.0.0 ≡ 0 + free.1.0 = free.1.1 in let b : found.0.0 ≡ version = found.2 in omega (arith, a, b)

    there : slice_get p.directory.versions version ≡ Some found.0.1
    there = ap (slice_get p.directory.versions) (sym place) ∙ free.1.2

    by : (number : ℕ) → version_of stands number ≡ version → (is_among number (all_numbers s.numbers) ≡ true) ⊎ (is_among number (snapshot_numbers s.snapshot) ≡ true) → ⊥
    by number same (inl here) =
        let among : is_among version (flat_map (λ (object : Object). object.versions) p.directory.objects) ≡ true =
        ap (λ v. is_among v (flat_map (λ (object : Object). object.versions) p.directory.objects)) (sym same)
        ∙ ap (is_among (version_of stands number)) (sym (flat_versions p.directory.objects) ∙ ap (flat_map (λ (object : List ℕ × List ℕ). object.1)) h.versions)
        ∙ among_stood stands number s.numbers here in
        let stand : Stands p.directory Standing.Current version = current_in p.directory p.directory.objects version h.sound.objects among in
        let current : found.0.1.standing ≡ Standing.Current = subst (λ f. IfSome f (λ (v : Version). v.standing ≡ Standing.Current)) there stand.0 in
        true≢false (sym both.0 ∙ ap is_superseded_standing current)
    by number same (inr kept) =
        let held : is_pinned p.directory version ≡ true = ap (is_pinned p.directory) (sym same) ∙ pinned number kept in
        true≢false (sym both.1 ∙ ap not (ap (is_pinned p.directory) found.2 ∙ held))
