-- Each step keeps every version that stands as drawn in a pass that has not ended.
use Rattle.std.proofs.Common.{◌≡◌, ◌⊎◌, inl, inr, ℕ, zero, suc, ◌+◌, ◌-◌, ◌<◌, ◌≤◌, Bool, true, false, cond, not, nat_lt, List, [], ◌∷◌, ◌++◌, length, map, zip, fold, Option, None, Some, option_map, unwrap_or, Contains, IsTrue, refl, sym, ap, subst, ◌∙◌, arith, length-append}
use Rattle.std.proofs.lemmas.Bool.{cond_both, cases_eq, cases_lt, false≢true}
use Rattle.std.proofs.lemmas.List.{length-map}
use Rattle.std.proofs.lemmas.List.Elements.{All-contains}
use Rattle.std.proofs.lemmas.List.FromFn.{length-range_with_len, get_or-range_with_len}
use Rattle.std.proofs.lemmas.Option.{same_Some, none-some}
use Rattle.std.specs.List.{slice_get, list_all, range_with_len}
use Rattle.store_map.specs.declared.actor.Actor.{Actor}
use Rattle.store_map.specs.declared.placement.Placement.{Placement}
use Rattle.store_map.specs.declared.reply.Reply.{Reply}
use Rattle.store_core.specs.Act.{DirectoryStep, takes_memory}
use Rattle.store_core.specs.AtDirectory.{unless_reaped, on_pass, take_garbage, swept_standing, reap_pass, reap, made_at_directory, unless_short}
use Rattle.store_core.specs.Commit.{commit, commit_object, dropped_by, place_all, is_overtaken}
use Rattle.store_core.specs.Conditions.{MayStep}
use Rattle.store_core.specs.Directory.{Object, Standing, Version, Pin, Pass, Directory}
use Rattle.store_core.specs.Lists.{change_at, is_among}
use Rattle.store_core.specs.Look.{begin_pass, seen_at, set_standing}
use Rattle.store_core.specs.Looks.{accept, look_by, look_repair_by}
use Rattle.store_core.specs.Lookups.{same_actor, find_object, pass_of, last_change, first_garbage, is_live, is_current}
use Rattle.store_core.specs.Note.{Note, Kind, refusal}
use Rattle.store_core.specs.PassSteps.{close_pass, give_up_drawn, new_version, draw, end_pass, confirm, repaired, touched}
use Rattle.store_core.specs.Sound.{IsSound}
use Rattle.store_core.specs.SoundPasses.{Stands, IsRight}
use Rattle.store_core.specs.Told.{Told}
use Rattle.store_core.proofs.Places.{length-change_at, length-set_standing, length-place_all, slice_get-change_at}
use Rattle.run_laws.specs.DrawnLaws.{IsBeingWritten, DrawnAreBeingWritten, StepsKeepDrawn}
use Rattle.run_laws.proofs.SoundClose.{IsHeld, held_pass, one_pass, marked}
use Rattle.run_laws.proofs.SoundDraw.{got_left}
use Rattle.run_laws.proofs.SoundLists.{at_contains, contains_at, not_among, filtered}
use Rattle.run_laws.proofs.SoundParts.{RightThere, Before, there_is}
use Rattle.run_laws.proofs.SoundVersions.{StandsIn, stands_at, standing_of, given, set_at, change_here, PlacedThere, placed_at, RaisedThere, raise, raised_at, length-raised}

-- ---- which versions stand as drawn after a change of versions
abbrev IsDrawn : Standing → Type 0
IsDrawn Standing.Drawn = Unit {0}
IsDrawn standing = ⊥

superseded_apart : Standing.Superseded ≡ Standing.Drawn → ⊥
superseded_apart e = subst IsDrawn (sym e) tt

taken_apart : Standing.Taken ≡ Standing.Drawn → ⊥
taken_apart e = subst IsDrawn (sym e) tt

current_apart : Standing.Current ≡ Standing.Drawn → ⊥
current_apart e = subst IsDrawn (sym e) tt

-- a version that stands as drawn after did so before, and is none of these
abbrev StoodSo : List Version → List Version → List ℕ → Type 0
StoodSo before after gone = (n : ℕ) → StandsIn after Standing.Drawn n → StandsIn before Standing.Drawn n × (Contains gone n → ⊥)

-- some get another standing
set_so : (standing : Standing) → (standing ≡ Standing.Drawn → ⊥) → (numbers : List ℕ) (versions : List Version) → StoodSo versions (set_standing standing numbers versions) numbers
set_so standing other numbers versions n h = by (is_among n numbers) refl
  where
    old : Before versions n
    old = there_is versions n (let same = length-set_standing standing numbers versions in omega (arith, h.1, same))

    stands : (given standing (is_among n numbers) old.version).standing ≡ Standing.Drawn
    stands = standing_of (set_standing standing numbers versions) Standing.Drawn n (given standing (is_among n numbers) old.version) h (set_at standing numbers versions n old.version old.found)

    by : (b : Bool) → is_among n numbers ≡ b → StandsIn versions Standing.Drawn n × (Contains numbers n → ⊥)
    by true e = absurd (other (ap (λ c. (given standing c old.version).standing) (sym e) ∙ stands))
    by false e = (
      stands_at versions Standing.Drawn n old.version old.found (ap (λ c. (given standing c old.version).standing) (sym e) ∙ stands),
      not_among n numbers e,
    )

-- some become current, each with its row
place_so : (drawn : List ℕ) (rows : List (List Placement)) (versions : List Version) → length rows ≡ length drawn → StoodSo versions (place_all (zip drawn rows) versions) drawn
place_so drawn rows versions count n h = by (is_among n drawn) refl
  where
    old : Before versions n
    old = there_is versions n (let same = length-place_all (zip drawn rows) versions in omega (arith, h.1, same))

    there : PlacedThere drawn rows versions n old.version
    there = placed_at drawn rows versions n old.version count old.found

    stands : there.after.standing ≡ Standing.Drawn
    stands = standing_of (place_all (zip drawn rows) versions) Standing.Drawn n there.after h there.found

    by : (b : Bool) → is_among n drawn ≡ b → StandsIn versions Standing.Drawn n × (Contains drawn n → ⊥)
    by true e = absurd (current_apart (sym (ap (λ (v : Version). v.standing) (there.placed.drawn_one e).2) ∙ stands))
    by false e = (
      stands_at versions Standing.Drawn n old.version old.found (sym (ap (λ (v : Version). v.standing) (there.placed.other e)) ∙ stands),
      not_among n drawn e,
    )

-- the placements of pinned ones change
raise_so : (server epoch : ℕ) (pins : List Pin) (versions : List Version) (n : ℕ) → StandsIn (fold (λ vs pin. change_at pin.version (raise server epoch) vs) versions pins) Standing.Drawn n
    → StandsIn versions Standing.Drawn n
raise_so server epoch pins versions n h =
    let old : Before versions n = there_is versions n (let same = length-raised server epoch pins versions in omega (arith, h.1, same)) in
    let now : RaisedThere (fold (λ vs pin. change_at pin.version (raise server epoch) vs) versions pins) n old.version = raised_at server epoch pins versions n old.version old.found in
    stands_at versions Standing.Drawn n old.version old.found
    (sym now.standing ∙ standing_of (fold (λ vs pin. change_at pin.version (raise server epoch) vs) versions pins) Standing.Drawn n now.after h now.found)

-- one that was taken is swept
sweep_so : (version : ℕ) (versions : List Version) (n : ℕ) → StandsIn (change_at version (λ entry. record entry { standing = swept_standing entry.standing }) versions) Standing.Drawn n
    → StandsIn versions Standing.Drawn n
sweep_so version versions n h = stands_at versions Standing.Drawn n old.version old.found (by (cases_eq n version))
  where
    swept : List Version
    swept = change_at version (λ entry. record entry { standing = swept_standing entry.standing }) versions

    old : Before versions n
    old = there_is versions n (let same = length-change_at version (λ (entry : Version). record entry { standing = swept_standing entry.standing }) versions in omega (arith, h.1, same))

    was : (standing : Standing) → swept_standing standing ≡ Standing.Drawn → standing ≡ Standing.Drawn
    was Standing.Drawn e = refl
    was Standing.Current e = e
    was Standing.Superseded e = e
    was Standing.Taken e = absurd (subst IsDrawn (sym e) tt)
    was Standing.Swept e = e

    by : (n ≡ version) ⊎ (n ≡ version → ⊥) → old.version.standing ≡ Standing.Drawn
    by (inl same) =
        was old.version.standing
        (standing_of swept Standing.Drawn n (record old.version { standing = swept_standing old.version.standing }) h
        (subst (λ i. slice_get (change_at i (λ entry. record entry { standing = swept_standing entry.standing }) versions) n ≡ Some (record old.version { standing = swept_standing old.version.standing })) same
        (change_here n (λ entry. record entry { standing = swept_standing entry.standing }) versions old.version old.found)))
    by (inr differ) =
        standing_of swept Standing.Drawn n old.version h (slice_get-change_at version n (λ entry. record entry { standing = swept_standing entry.standing }) versions differ ∙ old.found)

-- ---- passes that stay
-- an element after a change of each
changed_in : {X : Type 0} (f : X → X) (xs : List X) (x : X) → f x ≡ x → Contains xs x → Contains (map f xs) x
changed_in {X} f xs x same c = let at : (i : ℕ) × (slice_get xs i ≡ Some x) = at_contains xs x c in contains_at (map f xs) at.0 x (there xs at.0 at.1)
  where
    there : (ys : List X) (i : ℕ) → slice_get ys i ≡ Some x → slice_get (map f ys) i ≡ Some x
    there [] i e = e
    there (y ∷ ys) zero e = ap Some (ap f (same_Some y x e) ∙ same)
    there (y ∷ ys) (suc i) e = there ys i e

module _ (d : Directory) (drawn_before : DrawnAreBeingWritten d) where
  -- each live pass that drew a version which stands so after is still there
  same_passes : (after : Directory) → after.passes ≡ d.passes → ((n : ℕ) → Stands after Standing.Drawn n → Stands d Standing.Drawn n) → DrawnAreBeingWritten after
  same_passes after same so n h =
      let written : IsBeingWritten d n = drawn_before n (so n h) in
      (written.0, subst (λ (passes : List Pass). Contains passes written.0) (sym same) written.1, written.2, written.3)

  -- a pass more
  more_passes : (pass : Pass) → DrawnAreBeingWritten (record d { passes = pass ∷ d.passes })
  more_passes pass n h =
      let written : IsBeingWritten d n = drawn_before n h in
      let at : (i : ℕ) × (slice_get d.passes i ≡ Some written.0) = at_contains d.passes written.0 written.1 in
      (written.0, contains_at (pass ∷ d.passes) (suc at.0) written.0 at.1, written.2, written.3)

  module _ (sound : IsSound d) (pass : Pass) (held : IsHeld d pass) where
    -- a version of another pass than this one
    record OfAnother (n : ℕ) : Type 0 where
      other : Pass
      has : Contains d.passes other
      live : IsTrue (is_live other.reaped)
      drew : Contains other.drawn n
      apart : same_actor pass.actor other.actor ≡ false

    of_another : (n : ℕ) → Stands d Standing.Drawn n → (IsTrue (is_live pass.reaped) → Contains pass.drawn n → ⊥) → OfAnother n
    of_another n h none = by (same_actor pass.actor written.0.actor) refl
      where
        written : IsBeingWritten d n
        written = drawn_before n h

        by : (b : Bool) → same_actor pass.actor written.0.actor ≡ b → OfAnother n
        by false e = record { other = written.0; has = written.1; live = written.2; drew = written.3; apart = e }
        by true e =
            let same : written.0 ≡ pass = sym (one_pass d sound pass written.0 held written.1 e) in
            absurd (none (subst (λ (p : Pass). IsTrue (is_live p.reaped)) same written.2) (subst (λ (p : Pass). Contains p.drawn n) same written.3))

    -- the pass is closed, and none of its versions stands as drawn
    closed : (after : Directory) → after.passes ≡ (close_pass pass d).passes → ((n : ℕ) → Stands after Standing.Drawn n → Stands d Standing.Drawn n × (IsTrue (is_live pass.reaped) → Contains pass.drawn n → ⊥))
        → DrawnAreBeingWritten after
    closed after same so n h =
        let another : OfAnother n = of_another n (so n h).0 (so n h).1 in (
          another.other,
          subst (λ (passes : List Pass). Contains passes another.other) (sym same) (filtered (λ other. not (same_actor pass.actor other.actor)) d.passes another.other (ap not another.apart) another.has),
          another.live,
          another.drew,
        )

    -- the pass is marked with its reap, and its versions are superseded
    reaped_so : pass.reaped ≡ None → DrawnAreBeingWritten (reap_pass pass None d).0
    reaped_so live n h =
        let stood : StandsIn d.versions Standing.Drawn n × (Contains pass.drawn n → ⊥) = set_so Standing.Superseded superseded_apart pass.drawn d.versions n h in
        let another : OfAnother n = of_another n stood.0 (λ _. stood.1) in (
          another.other,
          changed_in (marked pass (length d.points)) d.passes another.other
              (ap (λ b. cond {A = Pass} b (record another.other { reaped = Some (length d.points) }) another.other) another.apart) another.has,
          another.live,
          another.drew,
        )

    -- the pass draws its versions
    draw_so : pass.drawn ≡ [] → pass.reaped ≡ None → DrawnAreBeingWritten (draw pass d).0
    draw_so none live n h = by (cases_lt n (length d.versions))
      where
        count : ℕ
        count = length (touched d pass.note)

        news : List Version
        news = map (new_version pass) (touched d pass.note)

        drawn : List ℕ
        drawn = range_with_len (length d.versions) count

        draws : Pass → Pass
        draws other = cond (same_actor pass.actor other.actor) (record other { drawn = drawn }) other

        before : n < length d.versions → Stands d Standing.Drawn n
        before low =
            let old : Before d.versions n = there_is d.versions n low in
            stands_at d.versions Standing.Drawn n old.version old.found (standing_of (d.versions ++ news) Standing.Drawn n old.version h (got_left d.versions news n old.version old.found))

        in_range : length d.versions ≤ n → Contains drawn n
        in_range high =
            let less : n < length (d.versions ++ news) = h.1 in
            let all : length (d.versions ++ news) ≡ length d.versions + length news = length-append d.versions news in
            let many : length news ≡ count = length-map (touched d pass.note) (new_version pass) in
            let place : n - length d.versions < count = omega (arith, less, all, many, high) in
            let size : length drawn ≡ count = length-range_with_len (length d.versions) count in
            let is : length d.versions + (n - length d.versions) ≡ n = omega (arith, high) in
            (n - length d.versions, omega (arith, place, size), get_or-range_with_len (length d.versions) count (n - length d.versions) n place ∙ is)

        -- the pass itself, which drew them
        mine : (i : ℕ) → slice_get d.passes i ≡ Some pass → Contains (map draws d.passes) (record pass { drawn = drawn })
        mine i at = contains_at (map draws d.passes) i (record pass { drawn = drawn }) (there d.passes i at)
          where
            there : (ys : List Pass) (i : ℕ) → slice_get ys i ≡ Some pass → slice_get (map draws ys) i ≡ Some (record pass { drawn = drawn })
            there [] i e = absurd (none-some pass e)
            there (y ∷ ys) zero e =
                ap Some (ap draws (same_Some y pass e) ∙ ap (λ b. cond {A = Pass} b (record pass { drawn = drawn }) pass) held.self)
            there (y ∷ ys) (suc i) e = there ys i e

        by : (n < length d.versions) ⊎ (length d.versions ≤ n) → IsBeingWritten (draw pass d).0 n
        by (inl low) =
            let another : OfAnother n = of_another n (before low) (λ _ c. empty (subst (λ ns. Contains ns n) none c)) in
            (another.other, changed_in draws d.passes another.other (ap (λ b. cond {A = Pass} b (record another.other { drawn = drawn }) another.other) another.apart) another.has, another.live, another.drew)
          where
            empty : Contains [] n → ⊥
            empty c = let less : c.0 < 0 = c.1 in omega (arith, less)
        by (inr high) =
            let at : (i : ℕ) × (slice_get d.passes i ≡ Some pass) = at_contains d.passes pass held.has in
            (record pass { drawn = drawn }, mine at.0 at.1, ap is_live live, in_range high)

-- ---- each step
module _ (d : Directory) (sound : IsSound d) (before : DrawnAreBeingWritten d) where
  abbrev Kept : Directory × Told → Type 0
  Kept after = DrawnAreBeingWritten after.0

  -- a step on an actor's pass; a reaped one is closed
  on_pass_so : (who : Actor) (step : Pass → Directory → Directory × Told) → ((pass : Pass) → pass_of who d ≡ Some pass → IsHeld d pass → pass.reaped ≡ None → Kept (step pass d)) → Kept (on_pass step (pass_of who d) d)
  on_pass_so who step keeps = by (pass_of who d) refl
    where
      open_or_not : (pass : Pass) → pass_of who d ≡ Some pass → (reaped : Option ℕ) → pass.reaped ≡ reaped → Kept (unless_reaped step pass reaped d)
      open_or_not pass e None live = keeps pass e (held_pass who d pass e) live
      open_or_not pass e (Some point) dead =
          closed d before sound pass (held_pass who d pass e) (close_pass pass d) refl (λ n h. (h, λ live _. absurd (false≢true (sym (ap is_live dead) ∙ live))))

      by : (found : Option Pass) → pass_of who d ≡ found → Kept (on_pass step found d)
      by None e = before
      by (Some pass) e = open_or_not pass e pass.reaped refl

  -- its versions are given up
  ended_so : (pass : Pass) → IsHeld d pass → DrawnAreBeingWritten (close_pass pass (give_up_drawn pass d))
  ended_so pass held =
      closed d before sound pass held (close_pass pass (give_up_drawn pass d)) refl
      (λ n h. let stood = set_so Standing.Superseded superseded_apart pass.drawn d.versions n h in (stood.0, λ _. stood.1))

  -- a rebuild's pass drew none
  rebuild_drew_none : (pass : Pass) → IsHeld d pass → pass.note.kind ≡ Kind.Rebuild → pass.drawn ≡ []
  rebuild_drew_none pass held e = subst (IsRight d pass) e (All-contains (RightThere d) d.passes pass sound.calls held.has)

  none_of_it : (pass : Pass) → IsHeld d pass → pass.note.kind ≡ Kind.Rebuild → (n : ℕ) → Contains pass.drawn n → ⊥
  none_of_it pass held e n c = let less : (subst (λ ns. Contains ns n) (rebuild_drew_none pass held e) c).0 < 0 = (subst (λ ns. Contains ns n) (rebuild_drew_none pass held e) c).1 in omega (arith, less)

  commit_so : (placed : List (List Placement)) (pass : Pass) → IsHeld d pass → length placed ≡ length pass.drawn → Kept (commit placed pass d)
  commit_so placed pass held rows =
      cond_both {A = Directory × Told} (is_overtaken pass.note.kind pass.base (last_change pass.note.name d.points))
      (close_pass pass (give_up_drawn pass d), Told.Changed (unwrap_or pass.base 0) (unwrap_or (last_change pass.note.name d.points) 0)) (commit_object placed pass old d) Kept (λ _. ended_so pass held)
      (λ _.
      closed d before sound pass held (commit_object placed pass old d).0 refl
      (λ n h.
      let kept = set_so Standing.Superseded superseded_apart (dropped_by pass.note.kind d pass old.versions) (place_all (zip pass.drawn placed) d.versions) n h in
      let stood = place_so pass.drawn placed d.versions rows n kept.0 in
      (stood.0, λ _. stood.1)))
    where
      old : Object
      old = unwrap_or (find_object pass.note.name d.objects) (record { name = pass.note.name; length = 0; versions = [] })

  confirm_so : (pass : Pass) → IsHeld d pass → pass.note.kind ≡ Kind.Rebuild → Kept (confirm pass d)
  confirm_so pass held kind =
      cond_both {A = Directory × Told} (list_all (λ pin. is_current d pin.version) pass.pinned)
      (d, Told.Current) (close_pass pass d, Told.Superseded (unwrap_or (last_change pass.note.name d.points) 0)) Kept (λ _. before)
      (λ _. closed d before sound pass held (close_pass pass d) refl (λ n h. (h, λ _. none_of_it pass held kind n)))

  repaired_so : (server epoch : ℕ) (pass : Pass) → IsHeld d pass → pass.note.kind ≡ Kind.Rebuild → Kept (repaired server epoch pass d)
  repaired_so server epoch pass held kind =
      closed d before sound pass held (repaired server epoch pass d).0 refl (λ n h. (raise_so server epoch pass.pinned d.versions n h, λ _. none_of_it pass held kind n))

  -- ---- looks
  look_so : (who : Actor) (number : ℕ) (note : Note) (found : Option Object) (refused : Option Reply) → Kept (look_by who number note d found refused)
  look_so who number note found (Some given) = same_passes d before (look_by who number note d found (Some given)).0 refl (λ n h. h)
  look_so who number note found None = by note.kind _
    where
      by : (kind : Kind) (object : Object) → Kept (accept who number note d kind object)
      by Kind.Delete object =
          same_passes d before (accept who number note d Kind.Delete object).0 refl (λ n h. (set_so Standing.Superseded superseded_apart object.versions d.versions n h).0)
      by Kind.Stat object = same_passes d before (accept who number note d Kind.Stat object).0 refl (λ n h. h)
      by Kind.Put object = more_passes d before _
      by Kind.Write object = more_passes d before _
      by _ object = more_passes d before _

  repair_so : (who : Actor) (number : ℕ) (note : Note) (found : Option Object) → Kept (look_repair_by who number note d found)
  repair_so who number note None = before
  repair_so who number note (Some object) =
      cond_both {A = Directory × Told} (nat_lt note.offset (length object.versions))
      (begin_pass who number note (seen_at d object note.offset ∷ []) None d, Told.PinnedStripe (seen_at d object note.offset)) (d, Told.NoSuch) Kept (λ _. more_passes d before _) (λ _. before)

  -- ---- the sweeper and the operator
  take_so : (found : Option ℕ) → Kept (take_garbage found d)
  take_so None = before
  take_so (Some version) = same_passes d before (take_garbage (Some version) d).0 refl (λ n h. (set_so Standing.Taken taken_apart (version ∷ []) d.versions n h).0)

  reap_so : (who : Actor) → Kept (reap (pass_of who d) d)
  reap_so who = by (pass_of who d) refl
    where
      open_or_not : (pass : Pass) → pass_of who d ≡ Some pass → (reaped : Option ℕ) → pass.reaped ≡ reaped → Kept (reap_pass pass reaped d)
      open_or_not pass e None live = reaped_so d before sound pass (held_pass who d pass e) live
      open_or_not pass e (Some point) dead = before

      by : (found : Option Pass) → pass_of who d ≡ found → Kept (reap found d)
      by None e = before
      by (Some pass) e = open_or_not pass e pass.reaped refl

  -- ---- all of them
  made_so : (who : Actor) (number : ℕ) (step : DirectoryStep) → MayStep d who number step → Kept (made_at_directory who number step d)
  made_so who number (DirectoryStep.Look note) may =
      look_so who number note (find_object note.name d.objects) (refusal d.max note (option_map (λ object. object.length) (find_object note.name d.objects)))
  made_so who number (DirectoryStep.LookRepair note) may = repair_so who number note (find_object note.name d.objects)
  made_so who number DirectoryStep.Draw may =
      on_pass_so who draw
      (λ pass e held live.
      let same : may.0 ≡ pass = same_Some may.0 pass (sym may.1.is_pass ∙ e) in
      draw_so d before sound pass held (subst (λ (p : Pass). p.drawn ≡ []) same may.2) live)
  made_so who number (DirectoryStep.Commit placed) may =
      on_pass_so who (commit placed)
      (λ pass e held live.
      let same : may.0 ≡ pass = same_Some may.0 pass (sym may.1.is_pass ∙ e) in
      commit_so placed pass held (subst (λ (p : Pass). length placed ≡ length p.drawn) same may.2.rows))
  made_so who number DirectoryStep.End may = on_pass_so who end_pass (λ pass e held live. ended_so pass held)
  made_so who number DirectoryStep.Confirm may =
      on_pass_so who confirm
      (λ pass e held live.
      let same : may.0 ≡ pass = same_Some may.0 pass (sym may.1.is_pass ∙ e) in
      confirm_so pass held (subst (λ (p : Pass). p.note.kind ≡ Kind.Rebuild) same may.1.kind))
  made_so who number (DirectoryStep.Repaired server epoch) may =
      on_pass_so who (repaired server epoch)
      (λ pass e held live.
      let same : may.0 ≡ pass = same_Some may.0 pass (sym may.1.is_pass ∙ e) in
      repaired_so server epoch pass held (subst (λ (p : Pass). p.note.kind ≡ Kind.Rebuild) same may.1.kind))
  made_so who number DirectoryStep.NextGarbage may = take_so (first_garbage d)
  made_so who number (DirectoryStep.Swept version) may =
      same_passes d before (made_at_directory who number (DirectoryStep.Swept version) d).0 refl (sweep_so version d.versions)
  made_so who number (DirectoryStep.Reap other) may = reap_so other

  short_so : (short takes : Bool) (who : Actor) (number : ℕ) (step : DirectoryStep) → MayStep d who number step → Kept (unless_short short takes who number step d)
  short_so true true who number step may = before
  short_so true false who number step may = made_so who number step may
  short_so false true who number step may = made_so who number step may
  short_so false false who number step may = made_so who number step may

-- the law
pub steps_keep_drawn : StepsKeepDrawn
steps_keep_drawn =
    record {
      first = λ g max n h. absurd (let less : n < 0 = h.1 in omega (arith, less));
      step = λ short who number step d some sound before may. short_so d sound before short (takes_memory step) who number step may;
    }
