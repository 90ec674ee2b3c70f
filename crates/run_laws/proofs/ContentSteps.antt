-- Each step at the directory keeps its bytes those of the map, and all contents.
use Rattle.std.proofs.Common.{◌≡◌, ◌⊎◌, ℕ, ◌<◌, Bool, true, false, cond, List, [], ◌∷◌, ◌++◌, length, map, zip, get_or, Option, None, Some, unwrap_or, bytes_eq, refl, sym, ap, subst, ◌∙◌, inl, inr}
use Rattle.std.proofs.lemmas.Bool.{false≢true, cond_both, eqb-true, not-false}
use Rattle.std.proofs.lemmas.Option.{same_Some}
use Rattle.std.proofs.lemmas.List.Elements.{All-nil, All-map, All-contains, Contains-get_or}
use Rattle.std.specs.List.{list_all}
use Rattle.clay_grid.specs.Shape.{stripe_length}
use Rattle.store_map.specs.declared.actor.Actor.{Actor}
use Rattle.store_map.specs.declared.placement.Placement.{Placement}
use Rattle.store_core.specs.Told.{Told}
use Rattle.store_core.specs.Note.{Kind}
use Rattle.store_core.specs.Act.{DirectoryStep, takes_memory}
use Rattle.store_core.specs.Directory.{Object, Standing, Version, Pass, Event, Point, Directory, new_directory}
use Rattle.store_core.specs.Lookups.{same_actor, find_object, pass_of, last_change, is_current, first_garbage}
use Rattle.store_core.specs.PassSteps.{close_pass, give_up_drawn, draw, end_pass, confirm, repaired}
use Rattle.store_core.specs.Look.{set_standing}
use Rattle.store_core.specs.Commit.{same_point, is_overtaken, put_object, dropped_by, place_all, changed_object, commit_object, commit}
use Rattle.store_core.specs.AtDirectory.{take_garbage, reap_pass, reap, made_at_directory, unless_short}
use Rattle.store_core.specs.Conditions.{IsPrepared, MayStep}
use Rattle.store_core.specs.Sound.{IsSound}
use Rattle.run_laws.proofs.SoundLists.{found_at}
use Rattle.run_laws.proofs.SoundHistory.{same_name}
use Rattle.run_laws.proofs.SoundAdds.{no_change_follows, with_point}
use Rattle.run_laws.proofs.SoundDelete.{change_follows}
use Rattle.run_laws.proofs.SoundObjects.{found_after_put}
use Rattle.run_laws.proofs.SoundClose.{IsHeld}
use Rattle.run_laws.proofs.SoundSteps.{steps_keep_sound}
use Rattle.store_core.specs.Calls.{Calls, IsNoteOf, IsOfCall}
use Rattle.run_laws.specs.Contents.{stripes_in, HasPins, HasBytes}
use Rattle.run_laws.specs.ContentLaws.{StepsKeepBytes}
use Rattle.run_laws.proofs.ContentGrows.{set_keeps, place_keeps, raise_keeps, swept_keeps}
use Rattle.run_laws.proofs.Replayed.{IsCalled, map_more}
use Rattle.run_laws.proofs.ContentCommits.{no_rebuild, commit_kept}
use Rattle.run_laws.proofs.ContentKept.{KeptThere, passes_kept, closed_kept, moved_kept, ended_kept, point_kept, on_pass_kept}
use Rattle.run_laws.proofs.KeptDraw.{draw_kept}
use Rattle.run_laws.proofs.KeptLook.{look_kept, look_repair_kept}

-- the test says that they are equal
same_point_is : (a b : Option ℕ) → same_point a b ≡ true → a ≡ b
same_point_is None None e = refl
same_point_is (Some p) (Some q) e = ap Some (eqb-true p q e)
same_point_is None (Some q) e = absurd (false≢true e)
same_point_is (Some p) None e = absurd (false≢true e)

module _ (calls : Calls) (d : Directory) (sound : IsSound d) (has : HasBytes calls d) where
  -- ---- a commit
  module _ (some : 0 < stripe_length d.shape) (placed : List (List Placement)) (pass : Pass) (held : IsHeld d pass) (ready : IsPrepared d pass placed) (writes : (pass.note.kind ≡ Kind.Put) ⊎ (pass.note.kind ≡ Kind.Write)) where
    abbrev nothing : Object
    nothing = record { name = pass.note.name; length = 0; versions = [] }

    abbrev point : Point
    point = record { actor = pass.actor; number = pass.number; note = pass.note; event = Event.Done }

    -- the pass is of a client's call
    its_call : IsNoteOf calls pass.actor pass.number pass.note
    its_call = by (All-contains (KeptThere calls d) d.passes pass has.passes held.has).call writes
      where
        by : (pass.note.kind ≡ Kind.Rebuild) ⊎ IsNoteOf calls pass.actor pass.number pass.note → (pass.note.kind ≡ Kind.Put) ⊎ (pass.note.kind ≡ Kind.Write) → IsNoteOf calls pass.actor pass.number pass.note
        by (inr h) other = h
        by (inl e) other = absurd (no_rebuild pass.note.kind e other)

    -- a commit that is made
    made_kept : (found : Option Object) → find_object pass.note.name d.objects ≡ found → (pass.note.kind ≡ Kind.Put) ⊎ ((pass.note.kind ≡ Kind.Write) × (pass.base ≡ last_change pass.note.name d.points))
        → IsSound (commit_object placed pass (unwrap_or found nothing) d).0 → HasBytes calls (commit_object placed pass (unwrap_or found nothing) d).0
    made_kept found is_found kind now =
        closed_kept calls pass (with_point d (put_object new d.objects) versions point)
        (point_kept calls d (put_object new d.objects) versions point sound has
        (set_keeps Standing.Superseded dropped (place_all (zip pass.drawn placed) d.versions) ∙ place_keeps (zip pass.drawn placed) d.versions)
        (inr its_call)
        (change_follows d (put_object new d.objects) point refl (λ name apart. found_after_put name new d.objects (ap (bytes_eq name) new_name ∙ apart)))
        (commit_kept calls d sound has some pass held placed ready its_call.0 its_call.1 its_call.2 found is_found now kind))
      where
        old : Object
        old = unwrap_or found nothing

        new : Object
        new = changed_object pass.note.kind d pass (unwrap_or found nothing)

        dropped : List ℕ
        dropped = dropped_by pass.note.kind d pass (unwrap_or found nothing).versions

        versions : List Version
        versions = set_standing Standing.Superseded dropped (place_all (zip pass.drawn placed) d.versions)

        old_name : (found : Option Object) → find_object pass.note.name d.objects ≡ found → (unwrap_or found nothing).name ≡ pass.note.name
        old_name None e = refl
        old_name (Some object) e = sym (same_name pass.note.name object.name (found_at (λ (o : Object). bytes_eq pass.note.name o.name) d.objects object e).2)

        kept_name : (kind : Kind) → (changed_object kind d pass (unwrap_or found nothing)).name ≡ (unwrap_or found nothing).name
        kept_name Kind.Write = refl
        kept_name kind = refl

        new_name : (changed_object pass.note.kind d pass (unwrap_or found nothing)).name ≡ pass.note.name
        new_name = kept_name pass.note.kind ∙ old_name found is_found

    -- a put, or a write that isn't overtaken
    not_overtaken : (pass.note.kind ≡ Kind.Put) ⊎ (pass.note.kind ≡ Kind.Write) → is_overtaken pass.note.kind pass.base (last_change pass.note.name d.points) ≡ false
        → (pass.note.kind ≡ Kind.Put) ⊎ ((pass.note.kind ≡ Kind.Write) × (pass.base ≡ last_change pass.note.name d.points))
    not_overtaken (inl e) none = inl e
    not_overtaken (inr e) none =
        inr (
          e,
          same_point_is pass.base (last_change pass.note.name d.points)
              (not-false (same_point pass.base (last_change pass.note.name d.points)) (subst (λ k. is_overtaken k pass.base (last_change pass.note.name d.points) ≡ false) e none)),
        )

    -- any commit
    one_commit_kept : IsSound (commit placed pass d).0 → HasBytes calls (commit placed pass d).0
    one_commit_kept now = by (is_overtaken pass.note.kind pass.base (last_change pass.note.name d.points)) refl now
      where
        result : Bool → Directory × Told
        result b =
            cond {A = Directory × Told} b (close_pass pass (give_up_drawn pass d), Told.Changed (unwrap_or pass.base 0) (unwrap_or (last_change pass.note.name d.points) 0))
            (commit_object placed pass (unwrap_or (find_object pass.note.name d.objects) nothing) d)

        by : (b : Bool) → is_overtaken pass.note.kind pass.base (last_change pass.note.name d.points) ≡ b → IsSound (result b).0 → HasBytes calls (result b).0
        by true e now = ended_kept calls pass d has
        by false e now = made_kept (find_object pass.note.name d.objects) refl (not_overtaken writes e) now

  -- ---- a reap
  reap_one_kept : (pass : Pass) → (reaped : Option ℕ) → pass.reaped ≡ reaped → HasBytes calls (reap_pass pass reaped d).0
  reap_one_kept pass (Some reaped) e = has
  reap_one_kept pass None e =
      passes_kept calls (with_point d d.objects gone point) (map shortages d.passes) pointed
      (All-map (KeptThere calls (with_point d d.objects gone point)) shortages d.passes
      (λ k p less. marked_kept (get_or d.passes k p) (All-contains (KeptThere calls (with_point d d.objects gone point)) d.passes (get_or d.passes k p) pointed.passes (Contains-get_or d.passes k p less))))
    where
      gone : List Version
      gone = set_standing Standing.Superseded pass.drawn d.versions

      point : Point
      point = record { actor = pass.actor; number = pass.number; note = pass.note; event = Event.Reaped }

      shortages : Pass → Pass
      shortages other = cond {A = Pass} (same_actor pass.actor other.actor) (record other { reaped = Some (length d.points) }) other

      pointed : HasBytes calls (with_point d d.objects gone point)
      pointed =
          point_kept calls d d.objects gone point sound has (set_keeps Standing.Superseded pass.drawn d.versions) (inl refl) (no_change_follows d point refl)
          (has.contents ∙ sym (ap (stripes_in d.shape) (map_more calls d.max d.points point)))

      marked_kept : (other : Pass) → KeptThere calls (with_point d d.objects gone point) other → KeptThere calls (with_point d d.objects gone point) (shortages other)
      marked_kept other kept =
          cond_both {A = Pass} (same_actor pass.actor other.actor) (record other { reaped = Some (length d.points) }) other (KeptThere calls (with_point d d.objects gone point))
          (λ _. record { call = kept.call; pins = pins other other.note.kind kept.pins; drawn = kept.drawn }) (λ _. kept)
        where
          pins : (other : Pass) (kind : Kind) → HasPins d.shape d.objects (d.points ++ point ∷ []) other kind → HasPins d.shape d.objects (d.points ++ point ∷ []) (record other { reaped = Some (length d.points) }) kind
          pins other Kind.Write h = h
          pins other kind h = tt

  reap_kept : (found : Option Pass) → HasBytes calls (reap found d).0
  reap_kept None = has
  reap_kept (Some pass) = reap_one_kept pass pass.reaped refl

  -- ---- the sweeper's steps
  take_kept : (found : Option ℕ) → HasBytes calls (take_garbage found d).0
  take_kept None = has
  take_kept (Some version) = moved_kept calls d (set_standing Standing.Taken (version ∷ []) d.versions) (set_keeps Standing.Taken (version ∷ []) d.versions) has

  -- ---- a rebuild's
  confirm_kept : (pass : Pass) → HasBytes calls (confirm pass d).0
  confirm_kept pass =
      cond_both {A = Directory × Told} (list_all (λ pin. is_current d pin.version) pass.pinned)
      (d, Told.Current) (close_pass pass d, Told.Superseded (unwrap_or (last_change pass.note.name d.points) 0)) (λ r. HasBytes calls r.0) (λ _. has) (λ _. closed_kept calls pass d has)

  repaired_kept : (server epoch : ℕ) (pass : Pass) → HasBytes calls (repaired server epoch pass d).0
  repaired_kept server epoch pass = closed_kept calls pass _ (moved_kept calls d _ (raise_keeps server epoch pass.pinned d.versions) has)

  -- ---- any step with ample memory
  made_step_kept : (who : Actor) (number : ℕ) (step : DirectoryStep) → 0 < stripe_length d.shape → MayStep d who number step → IsOfCall calls who number step → IsSound (made_at_directory who number step d).0
      → HasBytes calls (made_at_directory who number step d).0
  made_step_kept who number (DirectoryStep.Look note) some may called now = look_kept calls d sound has who number note called now
  made_step_kept who number (DirectoryStep.LookRepair note) some may called now = look_repair_kept calls d has who number note may.1
  made_step_kept who number DirectoryStep.Draw some may called now =
      on_pass_kept calls who d has draw (λ pass e held live now. draw_kept calls d sound has pass held) now
  made_step_kept who number (DirectoryStep.Commit placed) some may called now =
      on_pass_kept calls who d has (commit placed)
      (λ pass e held live now.
      let same : may.0 ≡ pass = same_Some may.0 pass (sym may.1.is_pass ∙ e) in
      one_commit_kept some placed pass held (subst (λ (p : Pass). IsPrepared d p placed) same may.2) (subst (λ (p : Pass). (p.note.kind ≡ Kind.Put) ⊎ (p.note.kind ≡ Kind.Write)) same may.1.kind) now) now
  made_step_kept who number DirectoryStep.End some may called now = on_pass_kept calls who d has end_pass (λ pass e held live now. ended_kept calls pass d has) now
  made_step_kept who number DirectoryStep.Confirm some may called now = on_pass_kept calls who d has confirm (λ pass e held live now. confirm_kept pass) now
  made_step_kept who number (DirectoryStep.Repaired server epoch) some may called now = on_pass_kept calls who d has (repaired server epoch) (λ pass e held live now. repaired_kept server epoch pass) now
  made_step_kept who number DirectoryStep.NextGarbage some may called now = take_kept (first_garbage d)
  made_step_kept who number (DirectoryStep.Swept version) some may called now = moved_kept calls d _ (swept_keeps version d.versions) has
  made_step_kept who number (DirectoryStep.Reap reaped) some may called now = reap_kept (pass_of reaped d)

  -- any step
  unless_short_kept : (short takes : Bool) (who : Actor) (number : ℕ) (step : DirectoryStep) → 0 < stripe_length d.shape → MayStep d who number step → IsOfCall calls who number step
      → IsSound (unless_short short takes who number step d).0 → HasBytes calls (unless_short short takes who number step d).0
  unless_short_kept true true who number step some may called now = has
  unless_short_kept true false who number step some may called now = made_step_kept who number step some may called now
  unless_short_kept false true who number step some may called now = made_step_kept who number step some may called now
  unless_short_kept false false who number step some may called now = made_step_kept who number step some may called now

-- the law
pub steps_keep_bytes : (calls : Calls) → StepsKeepBytes calls
steps_keep_bytes calls =
    record {
      first = λ g max. record { contents = refl; points = All-nil (IsCalled calls); passes = All-nil (KeptThere calls (new_directory g max)) };
      step = λ short who number step d some sound has may called.
          unless_short_kept calls d sound has short (takes_memory step) who number step some may called (steps_keep_sound.step short who number step d some sound may);
    }
