-- What a look leaves where its pass begins.
use Rattle.std.proofs.Common.{◌≡◌, ◌⊎◌, ℕ, zero, suc, ◌+◌, ◌<◌, ◌≤◌, ◌≢◌, Bool, true, false, cond, ◌&&◌, nat_eq, List, [], ◌∷◌, length, get_or, map, sum_by, slice_get, Result, Ok, Err, OnOk, is_err, Option, None, Some, IfSome, All, Contains, refl, sym, ap, subst, ◌∙◌, inl, inr, arith}
use Rattle.std.proofs.lemmas.Bool.{cases_eq, eq-eqb, ne_eqb, false≢true}
use Rattle.std.proofs.lemmas.Option.{slice_get_cases}
use Rattle.std.proofs.lemmas.List.Sums.{sum_by-cons}
use Rattle.std.proofs.lemmas.List.Elements.{All-cons, All-head, All-tail}
use Rattle.store_core.specs.Lists.{change_at}
use Rattle.store_core.specs.Directory.{Standing, Version, Object, Pin, Pass, Directory}
use Rattle.store_core.specs.Lookups.{is_live, holds_standing, is_superseded_standing}
use Rattle.store_core.specs.Look.{pin_of, seen_at}
use Rattle.stripe_stamps.specs.ItsStripes.{IsWhole}
use Rattle.store_core.specs.SoundPasses.{Stands}
use Rattle.version_table.specs.Counts.{one_if, times, pins_of, pins_by, points_due, objects_due, may_append, pinned_more}
use Rattle.dir_parts.specs.OpenPass.{Desk}
use Rattle.version_table.specs.Table.{Table}
use Rattle.dir_parts.specs.Parts.{Shelf, PointLog}
use Rattle.version_table.proofs.TableSteps.{length-change_at}
use Rattle.stripe_stamps.specs.Stripes.{pin_by}
use Rattle.run_laws.proofs.ContentGrows.{origins}
use Rattle.stripe_dir.specs.Kept.{directory_in, sealed_in, IsKept}
use Rattle.stripe_stamps.proofs.StampLists.{same_count, stamps_stay}
use Rattle.stripe_dir.specs.declared.directory.Directory.TheInside.{Inside}

-- of each pass there is at most one
pub at_most_one : (f : Pass → Bool) (passes : List Pass) → sum_by (λ pass. one_if (f pass)) passes ≤ length passes
at_most_one f [] = let none : sum_by (λ (pass : Pass). one_if (f pass)) [] ≡ 0 = refl in omega (arith, none)
at_most_one f (pass ∷ passes) = by (f pass) refl (at_most_one f passes) (sum_by-cons (λ (pass : Pass). one_if (f pass)) pass passes)
  where
    by : (b : Bool) → f pass ≡ b → sum_by (λ pass. one_if (f pass)) passes ≤ length passes → sum_by (λ pass. one_if (f pass)) (pass ∷ passes) ≡ one_if (f pass) + sum_by (λ pass. one_if (f pass)) passes
        → sum_by (λ pass. one_if (f pass)) (pass ∷ passes) ≤ suc (length passes)
    by true e rest all = let one : one_if (f pass) ≡ 1 = ap one_if e in omega (arith, one, rest, all)
    by false e rest all = let none : one_if (f pass) ≡ 0 = ap one_if e in omega (arith, none, rest, all)

-- a count that gains one at its own place
here_more : (m : ℕ) (counts : List ℕ) → m < length counts → get_or (change_at m (λ n. n + 1) counts) m 0 ≡ get_or counts m 0 + 1
here_more m [] less = absurd (omega arith)
here_more zero (n ∷ counts) less = refl
here_more (suc m) (n ∷ counts) less = here_more m counts (omega arith)

there_same : (m v : ℕ) (counts : List ℕ) → v ≢ m → get_or (change_at m (λ n. n + 1) counts) v 0 ≡ get_or counts v 0
there_same m v [] apart = refl
there_same zero zero (n ∷ counts) apart = absurd (apart refl)
there_same zero (suc v) (n ∷ counts) apart = refl
there_same (suc m) zero (n ∷ counts) apart = refl
there_same (suc m) (suc v) (n ∷ counts) apart = there_same m v counts (λ same. apart (ap suc same))

more_count : (m v : ℕ) (counts : List ℕ) → m < length counts → get_or (change_at m (λ n. n + 1) counts) v 0 ≡ get_or counts v 0 + one_if (nat_eq v m)
more_count m v counts less = by (cases_eq v m)
  where
    by : (v ≡ m) ⊎ (v ≡ m → ⊥) → get_or (change_at m (λ n. n + 1) counts) v 0 ≡ get_or counts v 0 + one_if (nat_eq v m)
    by (inl same) =
        let one : one_if (nat_eq v m) ≡ 1 = ap one_if (eq-eqb v m same) in
        let more : get_or (change_at m (λ n. n + 1) counts) v 0 ≡ get_or counts v 0 + 1 =
        subst (λ (k : ℕ). get_or (change_at m (λ n. n + 1) counts) k 0 ≡ get_or counts k 0 + 1) (sym same) (here_more m counts less)
        in
        omega (arith, one, more)
    by (inr apart) =
        let none : one_if (nat_eq v m) ≡ 0 = ap one_if (ne_eqb v m apart) in
        omega (arith, none, there_same m v counts apart)

pub get_or-pinned : (v : ℕ) (pins : List Pin) (counts : List ℕ) → All (λ pin. pin.version < length counts) pins → get_or (pinned_more pins counts) v 0 ≡ get_or counts v 0 + times v pins
get_or-pinned v [] counts within =
    let none : times v [] ≡ 0 = refl in
    let same : get_or (pinned_more [] counts) v 0 ≡ get_or counts v 0 = refl in
    omega (arith, none, same)
get_or-pinned v (pin ∷ pins) counts within =
    let more : List ℕ = change_at pin.version (λ n. n + 1) counts in
    let size : length more ≡ length counts = length-change_at pin.version (λ n. n + 1) counts in
    let rest : get_or (pinned_more pins more) v 0 ≡ get_or more v 0 + times v pins =
    get_or-pinned v pins more (subst (λ (n : ℕ). All (λ (pin : Pin). pin.version < n) pins) (sym size) (All-tail (λ (pin : Pin). pin.version < length counts) pin pins within))
    in
    let first : get_or more v 0 ≡ get_or counts v 0 + one_if (nat_eq v pin.version) = more_count pin.version v counts (All-head (λ (pin : Pin). pin.version < length counts) pin pins within) in
    let all : times v (pin ∷ pins) ≡ one_if (nat_eq v pin.version) + times v pins = sum_by-cons (λ (q : Pin). one_if (nat_eq v q.version)) pin pins in
    let whole : get_or (pinned_more (pin ∷ pins) counts) v 0 ≡ get_or (pinned_more pins more) v 0 = refl in
    omega (arith, rest, first, all, whole)

pub length-pinned : (pins : List Pin) (counts : List ℕ) → length (pinned_more pins counts) ≡ length counts
length-pinned [] counts = refl
length-pinned (pin ∷ pins) counts = length-pinned pins (change_at pin.version (λ n. n + 1) counts) ∙ length-change_at pin.version (λ n. n + 1) counts

-- what a pass keeps of what its look saw
pub pins_are : (d : Directory) (object : Object) (stripes : List ℕ) → map pin_of (map (seen_at d object) stripes) ≡ map (pin_by object.versions) stripes
pins_are d object [] = refl
pins_are d object (stripe ∷ stripes) = ap (λ l. pin_by object.versions stripe ∷ l) (pins_are d object stripes)

-- what holds of the versions of stripes holds of their pins
pub pins_have : (P : ℕ → Type 0) (held stripes : List ℕ) → All (λ stripe. P (get_or held stripe 0)) stripes → All (λ (pin : Pin). P pin.version) (map (pin_by held) stripes)
pins_have P held [] all = λ k d less. absurd (let no : k < 0 = less in omega (arith, no))
pins_have P held (stripe ∷ stripes) all =
    All-cons (λ (pin : Pin). P pin.version) (pin_by held stripe) (map (pin_by held) stripes) (All-head (λ stripe. P (get_or held stripe 0)) stripe stripes all)
    (pins_have P held stripes (All-tail (λ stripe. P (get_or held stripe 0)) stripe stripes all))

-- a current version isn't superseded
pub current_other : (d : Directory) (v : ℕ) → Stands d Standing.Current v → holds_standing is_superseded_standing (slice_get d.versions v) ≡ false
current_other d v current = by (slice_get_cases d.versions v).1
  where
    by : ((x : Version) × (v < length d.versions) × (slice_get d.versions v ≡ Some x) × (get_or d.versions v x ≡ x)) ⊎ ((length d.versions ≤ v) × (slice_get d.versions v ≡ None))
        → holds_standing is_superseded_standing (slice_get d.versions v) ≡ false
    by (inr k) = ap (holds_standing is_superseded_standing) k.1
    by (inl k) =
        let b : k.0.standing ≡ Standing.Current = subst (λ (o : Option Version). IfSome o (λ x. x.standing ≡ Standing.Current)) k.2 current.0 in
        ap (holds_standing is_superseded_standing) k.2 ∙ ap is_superseded_standing b

-- with room for more, the rest stays
pub record Roomy (a : Inside) (shelf : Shelf) (now : Desk) (book : PointLog) : Type 0 where
  pub points : book.points ≡ a.history.points
  pub others : (other : List ℕ) → Contains a.history.names other → Contains book.names other
  pub keeps : book.keeps ≡ a.history.keeps
  pub points_room : a.history.room ≤ book.room
  pub objects : shelf.objects ≡ a.objects.objects
  pub objects_room : a.objects.room ≤ shelf.room
  pub passes : now.listed ≡ a.passes.listed
  pub stripe : now.stripe_len ≡ a.passes.stripe_len

module _ (a : Inside) (kept : IsKept a) (objects : Shelf) (desk : Desk) (history : PointLog) (roomy : Roomy a objects desk history) where
  pub same_directory : directory_in (record a { objects = objects; passes = desk; history = history }) ≡ directory_in a
  same_directory = λ i. record (directory_in a) { objects = roomy.objects i; passes = roomy.passes i; points = roomy.points i }

  still_named : All (λ (pass : Pass). Contains history.names pass.note.name) a.passes.listed
  still_named = λ k x less. roomy.others (get_or a.passes.listed k x).note.name (kept.named k x less)

  pub kept_roomy : IsKept (record a { objects = objects; passes = desk; history = history })
  kept_roomy =
      record {
        stripes = kept.stripes;
        keeps = roomy.keeps ∙ kept.keeps;
        desk = roomy.stripe ∙ kept.desk;
        whole = subst IsWhole (sym same_directory) kept.whole;
        counted = kept.counted;
        pins = λ v. kept.pins v ∙ ap (pins_by v) (sym roomy.passes);
        named = subst (λ (ps : List Pass). All (λ pass. Contains history.names pass.note.name) ps) (sym roomy.passes) still_named;
        points_room = omega (arith, ap points_due roomy.passes, roomy.points_room, kept.points_room);
        objects_room = omega (arith, ap objects_due roomy.passes, roomy.objects_room, kept.objects_room);
        stamps = stamps_stay (sealed_in a) kept.stamps (directory_in (record a { objects = objects; passes = desk; history = history })) refl refl;
      }

  -- and one point more, with objects and versions that may have changed
  pub kept_pointed : (shelf : Shelf) (table : Table) (book : PointLog) → IsWhole (directory_in (record a { objects = shelf; versions = table; passes = desk; history = book })) → length a.passes.listed + 2 ≤ history.room → history.room ≤ book.room + 1
      → book.names ≡ history.names → book.keeps ≡ history.keeps → table.pins ≡ a.versions.pins → origins table.listed ≡ origins a.versions.listed → a.objects.room ≤ shelf.room → IsKept (record a { objects = shelf; versions = table; passes = desk; history = book })
  kept_pointed shelf table book whole more left names keeps pins same shelf_room =
      record {
        stripes = kept.stripes;
        keeps = keeps ∙ roomy.keeps ∙ kept.keeps;
        desk = roomy.stripe ∙ kept.desk;
        whole = whole;
        counted = ap length pins ∙ kept.counted ∙ sym (same_count a.versions.listed table.listed same);
        pins = λ v. ap (λ l. get_or l v 0) pins ∙ kept.pins v ∙ ap (pins_by v) (sym roomy.passes);
        named =
            subst (λ (ps : List Pass). All (λ pass. Contains book.names pass.note.name) ps) (sym roomy.passes)
            (subst (λ (names : List (List ℕ)). All (λ (pass : Pass). Contains names pass.note.name) a.passes.listed) (sym names) still_named);
        points_room = omega (arith, ap points_due roomy.passes, at_most_one (λ (q : Pass). is_live q.reaped) a.passes.listed, more, left);
        objects_room = omega (arith, ap objects_due roomy.passes, kept.objects_room, shelf_room);
        stamps = stamps_stay (sealed_in a) kept.stamps (directory_in (record a { objects = shelf; versions = table; passes = desk; history = book })) refl same;
      }

  -- and one pass more
  pub kept_begun : (table : Table) (now : Desk) (book : PointLog) (n : Pass) → n.reaped ≡ None → IsWhole (directory_in (record a { objects = objects; versions = table; passes = now; history = book })) → now.listed ≡ n ∷ a.passes.listed → now.stripe_len ≡ desk.stripe_len
      → table.listed ≡ a.versions.listed → table.pins ≡ pinned_more n.pinned a.versions.pins → All (λ pin. pin.version < length a.versions.listed) n.pinned
      → length a.passes.listed + 2 ≤ history.room → history.room ≤ book.room + 1 → book.names ≡ history.names → book.keeps ≡ history.keeps → Contains history.names n.note.name → length a.passes.listed + 1 ≤ objects.room
      → IsKept (record a { objects = objects; versions = table; passes = now; history = book })
  kept_begun table now book n live whole passes stripe listed pins within more left names keeps named more_objects =
      record {
        stripes = kept.stripes;
        keeps = keeps ∙ roomy.keeps ∙ kept.keeps;
        desk = stripe ∙ roomy.stripe ∙ kept.desk;
        whole = whole;
        counted = ap length pins ∙ length-pinned n.pinned a.versions.pins ∙ kept.counted ∙ sym (ap length listed);
        pins = λ v.
            let mine : pins_of v n ≡ times v n.pinned = ap (λ (r : Option ℕ). cond {A = ℕ} (is_live r) (times v n.pinned) 0) live in
            let all : pins_by v (n ∷ a.passes.listed) ≡ pins_of v n + pins_by v a.passes.listed = sum_by-cons (pins_of v) n a.passes.listed in
            let more : get_or table.pins v 0 ≡ get_or a.versions.pins v 0 + times v n.pinned =
            ap (λ l. get_or l v 0) pins ∙ get_or-pinned v n.pinned a.versions.pins (subst (λ (k : ℕ). All (λ (pin : Pin). pin.version < k) n.pinned) (sym kept.counted) within)
            in
            omega (arith, mine, all, more, kept.pins v, ap (pins_by v) passes);
        named =
            subst (λ (ps : List Pass). All (λ pass. Contains book.names pass.note.name) ps) (sym passes)
            (subst (λ (names : List (List ℕ)). All (λ (pass : Pass). Contains names pass.note.name) (n ∷ a.passes.listed)) (sym names)
            (All-cons (λ (q : Pass). Contains history.names q.note.name) n a.passes.listed named still_named));
        points_room = omega (arith, ap points_due passes, at_most_one (λ (q : Pass). is_live q.reaped) (n ∷ a.passes.listed), more, left);
        objects_room = omega (arith, ap objects_due passes, at_most_one (λ (q : Pass). may_append q.note.kind && is_live q.reaped) (n ∷ a.passes.listed), more_objects);
        stamps = stamps_stay (sealed_in a) kept.stamps (directory_in (record a { objects = objects; versions = table; passes = now; history = book })) refl (ap origins listed);
      }

-- what a call ensures that answered no error
pub ok_of : {A E P : Type 0} (r : Result A E) → is_err r ≡ false → OnOk r P → P
ok_of (Ok x) h p = p
ok_of (Err e) h p = absurd (false≢true (sym h))
