-- What a commit leaves.
use Rattle.std.proofs.Common.{◌≡◌, ◌⊎◌, ℕ, ◌<◌, ◌≤◌, ◌/◌, Bool, true, false, cond, not, bytes_eq, List, [], ◌∷◌, ◌++◌, length, get_or, slice_get, drop, filter, find, zip, Option, None, Some, IfSome, unwrap_or, All, refl, sym, ap, subst, ◌∙◌, inl, inr, arith}
use Rattle.std.proofs.lemmas.Option.{slice_get_cases, none-some}
use Rattle.std.proofs.lemmas.Slice.Eq.{bytes_eq-Decides}
use Rattle.std.proofs.lemmas.List.Elements.{All-take, All-drop}
use Rattle.std.specs.List.Sorted.{IsPermutation}
use Rattle.clay_grid.specs.Shape.{stripe_length}
use Rattle.store_map.specs.declared.actor.Actor.{Actor}
use Rattle.store_map.specs.declared.placement.Placement.{Placement}
use Rattle.store_core.specs.Told.{Told}
use Rattle.store_core.specs.Note.{Note, Kind}
use Rattle.store_core.specs.Act.{DirectoryStep}
use Rattle.store_core.specs.Directory.{Object, Standing, Version, Pass, Event, Point, Directory}
use Rattle.store_core.specs.Lookups.{same_actor, find_object, last_change, holds_standing, is_superseded_standing}
use Rattle.store_core.specs.Look.{set_standing}
use Rattle.store_core.specs.PassSteps.{close_pass, give_up_drawn, end_pass}
use Rattle.store_core.specs.Commit.{commit, commit_object, changed_object, dropped_by, is_overtaken, put_object, place_all}
use Rattle.store_core.specs.AtDirectory.{at_directory}
use Rattle.store_core.specs.SoundPasses.{Stands}
use Rattle.store_core.specs.Sound.{HasItsVersions, IsSound}
use Rattle.version_table.specs.Counts.{may_append}
use Rattle.dir_parts.specs.Parts.{object_or_new}
use Rattle.dir_parts.specs.Passes.{kind_in}
use Rattle.dir_parts.specs.declared.passes.CallKind.{CallKind}
use Rattle.dir_parts.specs.declared.passes.CallKind.TheVariants as kind
use Rattle.dir_parts.proofs.Actors.{find_passes}
use Rattle.stripe_dir.specs.Installed.{installed, dropped, changed_by}
use Rattle.stripe_dir.proofs.Ending.{closed, live_step, found_has}

-- a drawn version isn't superseded
pub drawn_other : (d : Directory) (v : ℕ) → Stands d Standing.Drawn v → holds_standing is_superseded_standing (slice_get d.versions v) ≡ false
drawn_other d v drawn = by (slice_get_cases d.versions v).1
  where
    by : ((x : Version) × (v < length d.versions) × (slice_get d.versions v ≡ Some x) × (get_or d.versions v x ≡ x)) ⊎ ((length d.versions ≤ v) × (slice_get d.versions v ≡ None))
        → holds_standing is_superseded_standing (slice_get d.versions v) ≡ false
    by (inr k) = ap (holds_standing is_superseded_standing) k.1
    by (inl k) =
        let b : k.0.standing ≡ Standing.Drawn = subst (λ (o : Option Version). IfSome o (λ x. x.standing ≡ Standing.Drawn)) k.2 drawn.0 in
        ap (holds_standing is_superseded_standing) k.2 ∙ ap is_superseded_standing b

-- the versions of the object that is there are current
pub old_current : (d : Directory) → IsSound d → (name : List ℕ) → All (Stands d Standing.Current) (object_or_new name d.objects).versions
old_current d sound name = by (find_object name d.objects) refl
  where
    by : (o : Option Object) → find_object name d.objects ≡ o → All (Stands d Standing.Current) (unwrap_or o (record { name = name; length = 0; versions = [] })).versions
    by None e = λ k x less. absurd (let no : k < 0 = less in omega (arith, no))
    by (Some object) e = (found_has (HasItsVersions d) (λ (o : Object). bytes_eq name o.name) d.objects object sound.objects e).current

-- and its name is the one
pub old_name : (objects : List Object) (name : List ℕ) → (object_or_new name objects).name ≡ name
old_name objects name = by (find_object name objects) refl
  where
    by : (o : Option Object) → find_object name objects ≡ o → (unwrap_or o (record { name = name; length = 0; versions = [] })).name ≡ name
    by None e = refl
    by (Some object) e = sym ((bytes_eq-Decides name object.name).0 (find_passes (λ (o : Object). bytes_eq name o.name) objects object e))

-- the versions that are replaced are among them
pub dropped_has : (P : ℕ → Type 0) (kind : Kind) (stripe : ℕ) (note : Note) (drawn old : List ℕ) → All P old → All P (dropped kind stripe note drawn old)
dropped_has P Kind.Write stripe note drawn old all = All-take P (length drawn) (drop (note.offset / stripe) old) (All-drop P (note.offset / stripe) old all)
dropped_has P Kind.Put stripe note drawn old all = all
dropped_has P Kind.Get stripe note drawn old all = all
dropped_has P Kind.ReadAt stripe note drawn old all = all
dropped_has P Kind.Stat stripe note drawn old all = all
dropped_has P Kind.Delete stripe note drawn old all = all
dropped_has P Kind.Rebuild stripe note drawn old all = all

-- in the words of the definitions
installed_is : (kind : Kind) (d : Directory) (p : Pass) (old : Object) → installed kind (stripe_length d.shape) p.note p.drawn old ≡ changed_object kind d p old
installed_is Kind.Write d p old = refl
installed_is Kind.Put d p old = refl
installed_is Kind.Get d p old = refl
installed_is Kind.ReadAt d p old = refl
installed_is Kind.Stat d p old = refl
installed_is Kind.Delete d p old = refl
installed_is Kind.Rebuild d p old = refl

dropped_is : (kind : Kind) (d : Directory) (p : Pass) (old : List ℕ) → dropped kind (stripe_length d.shape) p.note p.drawn old ≡ dropped_by kind d p old
dropped_is Kind.Write d p old = refl
dropped_is Kind.Put d p old = refl
dropped_is Kind.Get d p old = refl
dropped_is Kind.ReadAt d p old = refl
dropped_is Kind.Stat d p old = refl
dropped_is Kind.Delete d p old = refl
dropped_is Kind.Rebuild d p old = refl

-- of any call but a write
pub installed_other : (k : CallKind) → (k ≡ kind.Write → ⊥) → (stripe : ℕ) (note : Note) (drawn : List ℕ) (old : Object) → installed (kind_in k) stripe note drawn old ≡ record { name = old.name; length = note.length; versions = drawn }
installed_other kind.Write other stripe note drawn old = absurd (other refl)
installed_other kind.Put other stripe note drawn old = refl
installed_other kind.Get other stripe note drawn old = refl
installed_other kind.ReadAt other stripe note drawn old = refl
installed_other kind.Stat other stripe note drawn old = refl
installed_other kind.Delete other stripe note drawn old = refl
installed_other kind.Rebuild other stripe note drawn old = refl

pub dropped_other : (k : CallKind) → (k ≡ kind.Write → ⊥) → (stripe : ℕ) (note : Note) (drawn old : List ℕ) → dropped (kind_in k) stripe note drawn old ≡ old
dropped_other kind.Write other stripe note drawn old = absurd (other refl)
dropped_other kind.Put other stripe note drawn old = refl
dropped_other kind.Get other stripe note drawn old = refl
dropped_other kind.ReadAt other stripe note drawn old = refl
dropped_other kind.Stat other stripe note drawn old = refl
dropped_other kind.Delete other stripe note drawn old = refl
dropped_other kind.Rebuild other stripe note drawn old = refl

-- a put and a write may append their object
pub may_one : (k : Kind) → (k ≡ Kind.Put) ⊎ (k ≡ Kind.Write) → may_append k ≡ true
may_one k (inl e) = ap may_append e
may_one k (inr e) = ap may_append e

-- whether a write was overtaken, by what is told of it
pub not_changed : (p : Pass) (last : Option ℕ) → changed_by p last ≡ None → is_overtaken p.note.kind p.base last ≡ false
not_changed p last none = by (is_overtaken p.note.kind p.base last) none
  where
    by : (b : Bool) → cond {A = Option (ℕ × ℕ)} b (Some (unwrap_or p.base 0, unwrap_or last 0)) None ≡ None → b ≡ false
    by true e = absurd (none-some (unwrap_or p.base 0, unwrap_or last 0) (sym e))
    by false e = refl

pub was_changed : (p : Pass) (last : Option ℕ) (base newer : ℕ) → changed_by p last ≡ Some (base, newer)
    → (is_overtaken p.note.kind p.base last ≡ true) × (base ≡ unwrap_or p.base 0) × (newer ≡ unwrap_or last 0)
was_changed p last base newer some = by (is_overtaken p.note.kind p.base last) some
  where
    by : (b : Bool) → cond {A = Option (ℕ × ℕ)} b (Some (unwrap_or p.base 0, unwrap_or last 0)) None ≡ Some (base, newer) → (b ≡ true) × (base ≡ unwrap_or p.base 0) × (newer ≡ unwrap_or last 0)
    by true e = (refl, ap (λ (o : Option (ℕ × ℕ)). (unwrap_or o (0, 0)).0) (sym e), ap (λ (o : Option (ℕ × ℕ)). (unwrap_or o (0, 0)).1) (sym e))
    by false e = absurd (none-some (base, newer) e)

module _ (d : Directory) (who : Actor) (p : Pass) (rest : List Pass) (found : find (λ pass. same_actor who pass.actor) d.passes ≡ Some p)
    (left : rest ≡ filter (λ pass. not (same_actor who pass.actor)) d.passes) (perm : IsPermutation d.passes (p ∷ rest)) (live : p.reaped ≡ None) where
  abbrev old : Object
  old = object_or_new p.note.name d.objects

  pub commit_step : is_overtaken p.note.kind p.base (last_change p.note.name d.points) ≡ false → (number : ℕ) (rows : List (List Placement)) (objects : List Object) (listed : List Version) (points : List Point)
      → objects ≡ put_object (installed p.note.kind (stripe_length d.shape) p.note p.drawn (object_or_new p.note.name d.objects)) d.objects
      → listed ≡ set_standing Standing.Superseded (dropped p.note.kind (stripe_length d.shape) p.note p.drawn (object_or_new p.note.name d.objects).versions) (place_all (zip p.drawn rows) d.versions)
      → points ≡ d.points ++ record { actor = p.actor; number = p.number; note = p.note; event = Event.Done } ∷ []
      → (record d { objects = objects; versions = listed; passes = rest; points = points }, Told.Done (length d.points)) ≡ at_directory false who number (DirectoryStep.Commit rows) d
  commit_step still number rows objects listed points objects_are listed_are points_are =
      sym (
      live_step d who p rest found left perm (commit rows) live
      ∙ ap (λ b. cond {A = Directory × Told} b (close_pass p (give_up_drawn p d), Told.Changed (unwrap_or p.base 0) (unwrap_or (last_change p.note.name d.points) 0)) (commit_object rows p (object_or_new p.note.name d.objects) d)) still
      ∙ (λ i. (
        record (closed d who p rest found left perm i) {
          objects = (ap (λ (o : Object). put_object o d.objects) (sym (installed_is p.note.kind d p (object_or_new p.note.name d.objects))) ∙ sym objects_are) i;
          versions = (ap (λ (ns : List ℕ). set_standing Standing.Superseded ns (place_all (zip p.drawn rows) d.versions)) (sym (dropped_is p.note.kind d p (object_or_new p.note.name d.objects).versions)) ∙ sym listed_are) i;
          points = sym points_are i;
        },
        Told.Done (length d.points),
      ))
      )

  -- a write that was overtaken leaves what its end leaves
  pub overtaken_step : is_overtaken p.note.kind p.base (last_change p.note.name d.points) ≡ true → (number : ℕ) (rows : List (List Placement)) (after : Directory)
      → (after, Told.Ended) ≡ at_directory false who number DirectoryStep.End d
      → (after, Told.Changed (unwrap_or p.base 0) (unwrap_or (last_change p.note.name d.points) 0)) ≡ at_directory false who number (DirectoryStep.Commit rows) d
  overtaken_step over number rows after ended =
      ap (λ (r : Directory × Told). (r.0, Told.Changed (unwrap_or p.base 0) (unwrap_or (last_change p.note.name d.points) 0))) (ended ∙ live_step d who p rest found left perm end_pass live)
      ∙ sym (
      live_step d who p rest found left perm (commit rows) live
      ∙ ap (λ b. cond {A = Directory × Told} b (close_pass p (give_up_drawn p d), Told.Changed (unwrap_or p.base 0) (unwrap_or (last_change p.note.name d.points) 0)) (commit_object rows p (object_or_new p.note.name d.objects) d)) over
      )
