-- What is left where a pass is given up and stays.
use Rattle.std.proofs.Common.{◌≡◌, ◌⊎◌, ℕ, suc, ◌+◌, ◌-◌, ◌<◌, Bool, true, false, cond, ◌&&◌, List, [], ◌∷◌, ◌++◌, length, get_or, find, map, sum_by, if◌then◌else◌, Option, None, Some, IsFalse, All, AllPairs, Contains, refl, sym, ap, subst, ◌∙◌, inl, inr, arith, true≢false}
use Rattle.std.proofs.lemmas.Bool.{cases_Bool}
use Rattle.std.proofs.lemmas.Option.{none-some, same_Some}
use Rattle.std.proofs.lemmas.List.Sums.{sum_by-cons}
use Rattle.store_map.specs.declared.actor.Actor.{Actor}
use Rattle.store_map.specs.declared.actor.Actor.TheVariants as actor
use Rattle.store_core.specs.Told.{Told}
use Rattle.store_core.specs.Act.{DirectoryStep}
use Rattle.store_core.specs.Directory.{Standing, Event, Pass}
use Rattle.store_core.specs.Lookups.{same_actor, is_live}
use Rattle.store_core.specs.Look.{set_standing}
use Rattle.store_core.specs.AtDirectory.{at_directory, reap, reap_pass}
use Rattle.stripe_stamps.specs.ItsStripes.{IsWhole}
use Rattle.version_table.specs.Counts.{one_if, times, pins_of, pins_by, points_due, objects_due, may_append, unpinned}
use Rattle.dir_parts.specs.OpenPass.{Desk}
use Rattle.version_table.specs.Table.{Table}
use Rattle.dir_parts.specs.Parts.{PointLog}
use Rattle.dir_parts.proofs.Actors.{same_is, both_of, find_passes}
use Rattle.version_table.proofs.TableSteps.{length-set_standing}
use Rattle.dir_parts.proofs.Growing.{all_changed}
use Rattle.run_laws.proofs.ContentGrows.{origins, set_keeps}
use Rattle.stripe_dir.specs.Kept.{directory_in, sealed_in, IsKept}
use Rattle.stripe_stamps.proofs.StampLists.{stamps_stay}
use Rattle.stripe_dir.specs.declared.directory.Directory.TheInside.{Inside}
use Rattle.stripe_dir.proofs.Sound.{keeps_whole}
use Rattle.stripe_dir.proofs.Ending.{get_or-unpinned, length-unpinned}

-- no other pass is of the same actor
none_other : (who : Actor) (g : Pass → Pass) (p : Pass) (passes : List Pass) → same_actor who p.actor ≡ true → ((j : ℕ) (d : Pass) → j < length passes → IsFalse (same_actor p.actor (get_or passes j d).actor))
    → map (λ q. if same_actor who q.actor then g q else q) passes ≡ passes
none_other who g p [] own apart = refl
none_other who g p (q ∷ passes) own apart = λ i. first (cases_Bool (same_actor who q.actor)) i ∷ none_other who g p passes own (λ j d less. apart (suc j) d (omega (arith, less))) i
  where
    first : (same_actor who q.actor ≡ true) ⊎ (same_actor who q.actor ≡ false) → cond {A = Pass} (same_actor who q.actor) (g q) q ≡ q
    first (inr h) = ap (λ b. cond {A = Pass} b (g q) q) h
    first (inl h) = absurd (true≢false (sym (both_of who p.actor q.actor own h) ∙ apart 0 q (omega arith)))

-- a sum, where one pass is changed
sum_changed : (who : Actor) (g : Pass → Pass) (f : Pass → ℕ) (p : Pass) (passes : List Pass) → AllPairs (λ p q. IsFalse (same_actor p.actor q.actor)) passes → find (λ q. same_actor who q.actor) passes ≡ Some p
    → sum_by f (map (λ q. if same_actor who q.actor then g q else q) passes) + f p ≡ sum_by f passes + f (g p)
sum_changed who g f p [] apart found = absurd (none-some p found)
sum_changed who g f p (q ∷ passes) apart found =
    by (same_actor who q.actor) refl
    (λ own. none_other who g q passes own (λ j d less. apart 0 (suc j) d (omega arith) (omega (arith, less))))
    (sum_changed who g f p passes (λ i j d less within. apart (suc i) (suc j) d (omega (arith, less)) (omega (arith, within)))) found
  where
    rest : List Pass
    rest = map (λ q. if same_actor who q.actor then g q else q) passes

    by : (b : Bool) → same_actor who q.actor ≡ b → (same_actor who q.actor ≡ true → map (λ q. if same_actor who q.actor then g q else q) passes ≡ passes)
        → (find (λ q. same_actor who q.actor) passes ≡ Some p → sum_by f (map (λ q. if same_actor who q.actor then g q else q) passes) + f p ≡ sum_by f passes + f (g p))
        → cond {A = Option Pass} b (Some q) (find (λ q. same_actor who q.actor) passes) ≡ Some p
        → sum_by f (cond {A = Pass} b (g q) q ∷ map (λ q. if same_actor who q.actor then g q else q) passes) + f p ≡ sum_by f (q ∷ passes) + f (g p)
    by true h same later found =
        let is : q ≡ p = same_Some q p found in
        let a : sum_by f (g q ∷ map (λ q. if same_actor who q.actor then g q else q) passes) ≡ f (g q) + sum_by f passes = sum_by-cons f (g q) (map (λ q. if same_actor who q.actor then g q else q) passes) ∙ ap (λ l. f (g q) + sum_by f l) (same h) in
        let b : sum_by f (q ∷ passes) ≡ f q + sum_by f passes = sum_by-cons f q passes in
        let c : f q ≡ f p = ap f is in
        let e : f (g q) ≡ f (g p) = ap (λ (x : Pass). f (g x)) is in
        omega (arith, a, b, c, e)
    by false h same later found =
        let a : sum_by f (q ∷ map (λ q. if same_actor who q.actor then g q else q) passes) ≡ f q + sum_by f (map (λ q. if same_actor who q.actor then g q else q) passes) = sum_by-cons f q (map (λ q. if same_actor who q.actor then g q else q) passes) in
        let b : sum_by f (q ∷ passes) ≡ f q + sum_by f passes = sum_by-cons f q passes in
        omega (arith, a, b, later found)

-- a pass that isn't reaped may append a point
pub one_due : (who : Actor) (p : Pass) (passes : List Pass) → find (λ q. same_actor who q.actor) passes ≡ Some p → p.reaped ≡ None → 0 < points_due passes
one_due who p [] found live = absurd (none-some p found)
one_due who p (q ∷ passes) found live = by (same_actor who q.actor) (λ later. one_due who p passes later live) found
  where
    all : points_due (q ∷ passes) ≡ one_if (is_live q.reaped) + points_due passes
    all = sum_by-cons (λ (x : Pass). one_if (is_live x.reaped)) q passes

    by : (b : Bool) → (find (λ q. same_actor who q.actor) passes ≡ Some p → 0 < points_due passes) → cond {A = Option Pass} b (Some q) (find (λ q. same_actor who q.actor) passes) ≡ Some p → 0 < points_due (q ∷ passes)
    by true later found =
        let one : one_if (is_live q.reaped) ≡ 1 = ap (λ (x : Pass). one_if (is_live x.reaped)) (same_Some q p found) ∙ ap (λ (r : Option ℕ). one_if (is_live r)) live in
        omega (arith, one, all)
    by false later found =
        let more : 0 < points_due passes = later found in
        omega (arith, more, all)

module _ (a : Inside) (kept : IsKept a) (who : Actor) (p : Pass) (found : find (λ q. same_actor who q.actor) a.passes.listed ≡ Some p) (live : p.reaped ≡ None) (point : ℕ) (point_is : point ≡ length a.history.points) where
  -- a pass that is given up
  abbrev pub marked : Pass → Pass
  marked q = record q { reaped = Some point }

  own : who ≡ p.actor
  own = same_is who p.actor (find_passes (λ (q : Pass). same_actor who q.actor) a.passes.listed p found)

  module _ (desk : Desk) (table : Table) (book : PointLog) (passes_are : desk.listed ≡ map (λ q. if same_actor who q.actor then marked q else q) a.passes.listed) (listed : table.listed ≡ set_standing Standing.Superseded p.drawn a.versions.listed)
      (points : book.points ≡ a.history.points ++ record { actor = p.actor; number = p.number; note = p.note; event = Event.Reaped } ∷ []) where
    pub reap_step : (by_whom : Actor) (number : ℕ) → (directory_in (record a { versions = table; passes = desk; history = book }), Told.GivenUp (Some point)) ≡ at_directory false by_whom number (DirectoryStep.Reap who) (directory_in a)
    reap_step by_whom number =
        sym (
        ap (λ (o : Option Pass). reap o (directory_in a)) found ∙ ap (λ (r : Option ℕ). reap_pass p r (directory_in a)) live
        ∙ (λ i. (
          record (directory_in a) {
            versions = sym listed i;
            passes = (ap (λ (x : Actor). map (λ (q : Pass). if same_actor x q.actor then record q { reaped = Some (length a.history.points) } else q) a.passes.listed) (sym own)
                ∙ ap (λ (n : ℕ). map (λ (q : Pass). if same_actor who q.actor then record q { reaped = Some n } else q) a.passes.listed) (sym point_is) ∙ sym passes_are) i;
            points = sym points i;
          },
          Told.GivenUp (Some (sym point_is i)),
        ))
        )

    pub kept_given_up : desk.stripe_len ≡ a.passes.stripe_len → table.pins ≡ unpinned p.pinned a.versions.pins → book.names ≡ a.history.names → book.keeps ≡ a.history.keeps → book.room + 1 ≡ a.history.room
        → IsKept (record a { versions = table; passes = desk; history = book })
    kept_given_up stripe pins names keeps room =
        record {
          stripes = kept.stripes;
          keeps = keeps ∙ kept.keeps;
          desk = stripe ∙ kept.desk;
          whole = subst IsWhole (sym (ap (λ r. r.0) (reap_step actor.Operator 0))) (keeps_whole actor.Operator 0 (DirectoryStep.Reap who) (directory_in a) kept.stripes kept.whole tt);
          counted = ap length pins ∙ length-unpinned p.pinned a.versions.pins ∙ kept.counted ∙ sym (ap length listed ∙ length-set_standing Standing.Superseded p.drawn a.versions.listed);
          stamps = stamps_stay (sealed_in a) kept.stamps (directory_in (record a { versions = table; passes = desk; history = book })) refl (ap origins listed ∙ set_keeps Standing.Superseded p.drawn a.versions.listed);
          pins = λ v.
              let mine : pins_of v p ≡ times v p.pinned = ap (λ (r : Option ℕ). cond {A = ℕ} (is_live r) (times v p.pinned) 0) live in
              let none : pins_of v (marked p) ≡ 0 = refl in
              let less : get_or table.pins v 0 ≡ get_or a.versions.pins v 0 - times v p.pinned = ap (λ l. get_or l v 0) pins ∙ get_or-unpinned v p.pinned a.versions.pins in
              let sums : pins_by v (map (λ q. if same_actor who q.actor then marked q else q) a.passes.listed) + pins_of v p ≡ pins_by v a.passes.listed + pins_of v (marked p) = sum_changed who marked (pins_of v) p a.passes.listed kept.whole.sound.passes found in
              let same : pins_by v desk.listed ≡ pins_by v (map (λ q. if same_actor who q.actor then marked q else q) a.passes.listed) = ap (pins_by v) passes_are in
              omega (arith, mine, none, less, sums, same, kept.pins v);
          named =
              subst (λ (l : List Pass). All (λ q. Contains book.names q.note.name) l) (sym passes_are)
              (subst (λ (names : List (List ℕ)). All (λ (q : Pass). Contains names q.note.name) (map (λ q. if same_actor who q.actor then marked q else q) a.passes.listed)) (sym names)
              (all_changed (λ (q : Pass). Contains a.history.names q.note.name) (λ (q : Pass). if same_actor who q.actor then marked q else q) (λ q h. still q (same_actor who q.actor) h) a.passes.listed kept.named));
          points_room =
              (let mine : one_if (is_live p.reaped) ≡ 1 = ap (λ (r : Option ℕ). one_if (is_live r)) live in
              let none : one_if (is_live (marked p).reaped) ≡ 0 = refl in
              let sums : points_due (map (λ q. if same_actor who q.actor then marked q else q) a.passes.listed) + one_if (is_live p.reaped) ≡ points_due a.passes.listed + one_if (is_live (marked p).reaped) = sum_changed who marked (λ (q : Pass). one_if (is_live q.reaped)) p a.passes.listed kept.whole.sound.passes found in
              omega (arith, mine, none, sums, ap points_due passes_are, kept.points_room, room));
          objects_room =
              (let none : one_if (may_append (marked p).note.kind && is_live (marked p).reaped) ≡ 0 = both (may_append p.note.kind) in
              let sums : objects_due (map (λ q. if same_actor who q.actor then marked q else q) a.passes.listed) + one_if (may_append p.note.kind && is_live p.reaped) ≡ objects_due a.passes.listed + one_if (may_append (marked p).note.kind && is_live (marked p).reaped) =
              sum_changed who marked (λ (q : Pass). one_if (may_append q.note.kind && is_live q.reaped)) p a.passes.listed kept.whole.sound.passes found
              in
              omega (arith, none, sums, ap objects_due passes_are, kept.objects_room));
        }
      where
        still : (q : Pass) (b : Bool) → Contains a.history.names q.note.name → Contains a.history.names (cond {A = Pass} b (marked q) q).note.name
        still q true h = h
        still q false h = h

        both : (b : Bool) → one_if (b && false) ≡ 0
        both true = refl
        both false = refl
