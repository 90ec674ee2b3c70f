-- Each step at the directory keeps versions of their own stripes.
use Rattle.std.proofs.Common.{◌≡◌, ◌⊎◌, ℕ, suc, ◌+◌, ◌-◌, ◌/◌, ◌<◌, ◌≤◌, nat_lt, Bool, true, false, cond, bytes_eq, List, [], ◌∷◌, ◌++◌, length, get_or, map, take, Option, None, Some, option_map, IfSome, unwrap_or, All, Contains, refl, sym, ap, subst, ◌∙◌, inl, inr, arith, zero-add}
use Rattle.std.proofs.lemmas.Bool.{cond_both, ltb-true, ltb-false, not-false, eqb-true, false≢true}
use Rattle.std.proofs.lemmas.Option.{same_Some, none-some}
use Rattle.std.proofs.lemmas.List.{length-map, get_or_append_left, get_or-append_right, map-append}
use Rattle.std.proofs.lemmas.List.FromFn.{length-range_with_len, get_or-range_with_len}
use Rattle.std.proofs.lemmas.List.Elements.{All-nil, All-cons, All-map, All-contains, Contains-get_or, All-weaker}
use Rattle.std.specs.List.{range_with_len, list_all}
use Rattle.clay_grid.specs.Shape.{stripe_length}
use Rattle.store_map.specs.Limits.{stripes_met}
use Rattle.store_map.specs.declared.actor.Actor.{Actor}
use Rattle.store_map.specs.declared.placement.Placement.{Placement}
use Rattle.store_map.specs.declared.reply.Reply.{Reply}
use Rattle.store_map.specs.declared.reply.Reply.TheVariants as reply
use Rattle.store_core.specs.Told.{Told}
use Rattle.store_core.specs.Note.{Note, Kind, refusal_of_size, refusal_by, refusal}
use Rattle.store_core.specs.Act.{DirectoryStep, takes_memory}
use Rattle.store_core.specs.Directory.{Object, Standing, Version, Pin, Pass, Directory}
use Rattle.store_core.specs.Lookups.{same_actor, find_object, pass_of, last_change, is_current, first_garbage}
use Rattle.store_core.specs.Look.{pin_of, seen_at, pinned_by, begin_pass}
use Rattle.store_core.specs.Looks.{accept, look_by, look_repair_by}
use Rattle.store_core.specs.PassSteps.{close_pass, give_up_drawn, touched, new_version, draw, end_pass, confirm, repaired}
use Rattle.store_core.specs.Commit.{same_point, is_overtaken, commit_object, changed_object, commit}
use Rattle.store_core.specs.AtDirectory.{unless_reaped, on_pass, take_garbage, reap_pass, reap, made_at_directory, unless_short, at_directory}
use Rattle.store_core.specs.Conditions.{MayStep}
use Rattle.store_core.specs.Lengths.{length_in, apply_length}
use Rattle.store_core.specs.Replay.{lengths_after}
use Rattle.store_core.specs.SoundPasses.{Stands, HasBase, IsRight, HasVersions}
use Rattle.store_core.specs.Sound.{HasItsVersions, IsSound, lengths_of}
use Rattle.run_laws.proofs.Passes.{found_has}
use Rattle.run_laws.proofs.SoundHistory.{replied, same_reply, ok_accepted, Last, last_of}
use Rattle.run_laws.proofs.SoundParts.{RightThere}
use Rattle.run_laws.proofs.SoundClose.{IsHeld, held_pass, one_pass}
use Rattle.run_laws.proofs.SoundObjects.{length_found}
use Rattle.run_laws.proofs.SoundStripes.{pins_within, first_fits}
use Rattle.run_laws.proofs.VersionsMove.{Draws, versions_move}
use Rattle.run_laws.proofs.ContentGrows.{origins}
use Rattle.dir_parts.specs.Parts.{object_or_new}
use Rattle.stripe_stamps.specs.ItsStripes.{IsOfStripe, AreFrom, IsOfItsStripes, AreOwn, stripes_in}
use Rattle.stripe_dir.proofs.StripeLists.{ObjectFits, count_there, removed_fits, put_fits, old_fits, written_fits, pins_fit, begun_fits, closed_fit, reaped_fit, whole_fits}

-- the test says that they are equal
same_point_is : (a b : Option ℕ) → same_point a b ≡ true → a ≡ b
same_point_is None None e = refl
same_point_is (Some p) (Some q) e = ap Some (eqb-true p q e)
same_point_is None (Some q) e = absurd (false≢true e)
same_point_is (Some p) None e = absurd (false≢true e)

-- whether a step is a draw
abbrev is_draw : DirectoryStep → Bool
is_draw DirectoryStep.Draw = true
is_draw (DirectoryStep.Look note) = false
is_draw (DirectoryStep.LookRepair note) = false
is_draw (DirectoryStep.Commit placed) = false
is_draw DirectoryStep.End = false
is_draw DirectoryStep.Confirm = false
is_draw (DirectoryStep.Repaired server epoch) = false
is_draw DirectoryStep.NextGarbage = false
is_draw (DirectoryStep.Swept version) = false
is_draw (DirectoryStep.Reap reaped) = false

-- versions that keep what they are laid over keep their stripes
stripe_origins : (versions : List Version) → stripes_in versions ≡ stripes_in (origins versions)
stripe_origins [] = refl
stripe_origins (v ∷ vs) = ap (λ l. v.stripe ∷ l) (stripe_origins vs)

same_stripes : (before after : List Version) → origins after ≡ origins before → stripes_in after ≡ stripes_in before
same_stripes before after e = stripe_origins after ∙ ap stripes_in e ∙ sym (stripe_origins before)

module _ (d : Directory) (sound : IsSound d) (some : 0 < stripe_length d.shape) (own : AreOwn (stripes_in d.versions) d.shape d.objects d.passes) where
  abbrev ss : List ℕ
  ss = stripes_in d.versions

  -- the objects and passes after a step fit the versions before it
  abbrev Fits : Directory → Type 0
  Fits after = AreOwn (stripes_in d.versions) d.shape after.objects after.passes

  -- ---- looks
  -- each pinned stripe is one of the object's
  within : (kind : Kind) (note : Note) → All (λ s. s < length (object_or_new note.name d.objects).versions) (pinned_by kind d.shape note (object_or_new note.name d.objects).length)
  within kind note =
      All-weaker (λ s. s < stripes_met (stripe_length d.shape) 0 (object_or_new note.name d.objects).length) (λ s. s < length (object_or_new note.name d.objects).versions)
      (λ s h. subst (λ n. s < n) (sym (count_there d sound note.name)) h) (pinned_by kind d.shape note (object_or_new note.name d.objects).length)
      (pins_within d.shape some kind note (object_or_new note.name d.objects).length)

  -- a pass begins that pins stripes of its object
  begun : (who : Actor) (number : ℕ) (note : Note) (base : Option ℕ) (after : Directory) → after.objects ≡ d.objects
      → after.passes
      ≡ record { actor = who; number = number; note = note; pinned = map pin_of (map (seen_at d (object_or_new note.name d.objects)) (pinned_by note.kind d.shape note (object_or_new note.name d.objects).length)); drawn = []; base = base; reaped = None } ∷ d.passes
      → Fits after
  begun who number note base after objects passes =
      let object : Object = object_or_new note.name d.objects in
      let pins : List Pin = map pin_of (map (seen_at d (object_or_new note.name d.objects)) (pinned_by note.kind d.shape note (object_or_new note.name d.objects).length)) in
      record {
        objects = subst (All (ObjectFits (stripes_in d.versions))) (sym objects) own.objects;
        passes = subst (All (IsOfItsStripes (stripes_in d.versions) d.shape)) (sym passes)
            (All-cons (IsOfItsStripes (stripes_in d.versions) d.shape) (record { actor = who; number = number; note = note; pinned = pins; drawn = []; base = base; reaped = None }) d.passes
            (begun_fits (stripes_in d.versions) d.shape who number note pins base
            (pins_fit (stripes_in d.versions) d object (pinned_by note.kind d.shape note object.length) (old_fits (stripes_in d.versions) note.name d.objects own.objects) (within note.kind note)))
            own.passes);
      }

  -- or none
  begun_put : (who : Actor) (number : ℕ) (note : Note) → Fits (begin_pass who number note [] None d)
  begun_put who number note =
      record {
        objects = own.objects;
        passes = All-cons (IsOfItsStripes (stripes_in d.versions) d.shape) (record { actor = who; number = number; note = note; pinned = []; drawn = []; base = None; reaped = None }) d.passes
            (begun_fits (stripes_in d.versions) d.shape who number note [] None (All-nil (λ (pin : Pin). IsOfStripe (stripes_in d.versions) pin.version pin.stripe))) own.passes;
      }

  accept_fits : (who : Actor) (number : ℕ) (note : Note) (kind : Kind) → Fits (accept who number note d kind (object_or_new note.name d.objects)).0
  accept_fits who number note Kind.Put = begun_put who number note
  accept_fits who number note Kind.Write = begun who number note (last_change note.name d.points) (accept who number note d Kind.Write (object_or_new note.name d.objects)).0 refl refl
  accept_fits who number note Kind.Get = begun who number note None (accept who number note d Kind.Get (object_or_new note.name d.objects)).0 refl refl
  accept_fits who number note Kind.ReadAt = begun who number note None (accept who number note d Kind.ReadAt (object_or_new note.name d.objects)).0 refl refl
  accept_fits who number note Kind.Rebuild = begun who number note None (accept who number note d Kind.Rebuild (object_or_new note.name d.objects)).0 refl refl
  accept_fits who number note Kind.Stat = own
  accept_fits who number note Kind.Delete = record { objects = removed_fits (stripes_in d.versions) (object_or_new note.name d.objects).name d.objects own.objects; passes = own.passes }

  look_fits : (who : Actor) (number : ℕ) (note : Note) (refused : Option Reply) → Fits (look_by who number note d (find_object note.name d.objects) refused).0
  look_fits who number note (Some given) = own
  look_fits who number note None = accept_fits who number note note.kind

  repair_fits : (who : Actor) (number : ℕ) (note : Note) (found : Option Object) → IfSome found (ObjectFits (stripes_in d.versions)) → Fits (look_repair_by who number note d found).0
  repair_fits who number note None h = own
  repair_fits who number note (Some object) h =
      cond_both {A = Directory × Told} (nat_lt note.offset (length object.versions))
      (begin_pass who number note (seen_at d object note.offset ∷ []) None d, Told.PinnedStripe (seen_at d object note.offset)) (d, Told.NoSuch) (λ r. Fits r.0)
      (λ less.
      record {
        objects = own.objects;
        passes = All-cons (IsOfItsStripes (stripes_in d.versions) d.shape) (record { actor = who; number = number; note = note; pinned = map pin_of (map (seen_at d object) (note.offset ∷ [])); drawn = []; base = None; reaped = None }) d.passes
            (begun_fits (stripes_in d.versions) d.shape who number note (map pin_of (map (seen_at d object) (note.offset ∷ []))) None
            (pins_fit (stripes_in d.versions) d object (note.offset ∷ []) h
            (All-cons (λ s. s < length object.versions) note.offset [] (ltb-true note.offset (length object.versions) less) (All-nil (λ s. s < length object.versions)))))
            own.passes;
      })
      (λ _. own)

  -- ---- steps on a pass
  closed : (pass : Pass) → Fits (close_pass pass d)
  closed pass = record { objects = own.objects; passes = closed_fit (stripes_in d.versions) d.shape pass d.passes own.passes }

  on_pass_fits : (who : Actor) (step : Pass → Directory → Directory × Told) → ((pass : Pass) → pass_of who d ≡ Some pass → Fits (step pass d).0) → Fits (on_pass step (pass_of who d) d).0
  on_pass_fits who step fits = by (pass_of who d) refl
    where
      by_reap : (pass : Pass) → pass_of who d ≡ Some pass → (reaped : Option ℕ) → Fits (unless_reaped step pass reaped d).0
      by_reap pass e None = fits pass e
      by_reap pass e (Some point) = closed pass

      by : (found : Option Pass) → pass_of who d ≡ found → Fits (on_pass step found d).0
      by None e = own
      by (Some pass) e = by_reap pass e pass.reaped

  confirm_fits : (pass : Pass) → Fits (confirm pass d).0
  confirm_fits pass =
      cond_both {A = Directory × Told} (list_all (λ pin. is_current d pin.version) pass.pinned)
      (d, Told.Current) (close_pass pass d, Told.Superseded (unwrap_or (last_change pass.note.name d.points) 0)) (λ r. Fits r.0) (λ _. own) (λ _. closed pass)

  -- ---- a reap and the sweeper's steps
  reap_fits : (found : Option Pass) → Fits (reap found d).0
  reap_fits None = own
  reap_fits (Some pass) = by pass.reaped
    where
      by : (reaped : Option ℕ) → Fits (reap_pass pass reaped d).0
      by None = record { objects = own.objects; passes = reaped_fit (stripes_in d.versions) d.shape pass (length d.points) d.passes own.passes }
      by (Some point) = own

  take_fits : (found : Option ℕ) → Fits (take_garbage found d).0
  take_fits None = own
  take_fits (Some version) = record { objects = own.objects; passes = own.passes }

  -- ---- a commit
  module _ (pass : Pass) (held : IsHeld d pass) where
    its : IsOfItsStripes (stripes_in d.versions) d.shape pass
    its = All-contains (IsOfItsStripes (stripes_in d.versions) d.shape) d.passes pass own.passes held.has

    right : (kind : Kind) → pass.note.kind ≡ kind → IsRight d pass kind
    right kind e = subst (IsRight d pass) e (All-contains (RightThere d) d.passes pass sound.calls held.has)

    -- the write begins in its object, or at its end
    module _ (e : pass.note.kind ≡ Kind.Write) (base : HasBase d pass) (same_base : pass.base ≡ last_change pass.note.name d.points) where
      write_done : (apply_length d.max pass.note (lengths_of d)).1 ≡ reply.Done
      write_done = by (last_of d.max pass.note.name 0 None [] d.points (lengths_of d) sound.history)
        where
          by : Last d.max pass.note.name 0 None [] d.points (lengths_of d) → (apply_length d.max pass.note (lengths_of d)).1 ≡ reply.Done
          by (inl none) = absurd (none-some base.base (sym none.0 ∙ sym same_base ∙ base.is_base))
          by (inr h) =
              let here : base.base ≡ h.place = same_Some base.base h.place (sym base.is_base ∙ same_base ∙ h.last ∙ ap Some (zero-add h.place)) in
              let next : base.base + 1 ≡ suc h.place = omega (arith, here) in
              sym (same_reply d.max pass.note (lengths_after d.max (take (suc h.place) d.points)) (lengths_of d) h.same)
              ∙ subst (λ n. (apply_length d.max pass.note (lengths_after d.max (take n d.points))).1 ≡ reply.Done) next base.allowed

      refused_past : (n : ℕ) → refusal_by d.max Kind.Write pass.note.offset pass.note.length (Some n) ≡ None → pass.note.offset ≤ n
      refused_past n none = by (nat_lt n pass.note.offset) refl none
        where
          by : (b : Bool) → nat_lt n pass.note.offset ≡ b → cond {A = Option Reply} b (Some reply.OutRange) (refusal_of_size d.max (pass.note.offset + pass.note.length)) ≡ None → pass.note.offset ≤ n
          by true f g = absurd (none-some reply.OutRange (sym g))
          by false f g = ltb-false n pass.note.offset f

      accepted : refusal_by d.max Kind.Write pass.note.offset pass.note.length (length_in pass.note.name (lengths_of d)) ≡ None
      accepted =
          subst (λ k. refusal_by d.max k pass.note.offset pass.note.length (length_in pass.note.name (lengths_of d)) ≡ None) e
          (ok_accepted d.max pass.note (length_in pass.note.name (lengths_of d)) (sym (replied d.max pass.note (lengths_of d)) ∙ write_done))

      begins_there : (found : Option Object) → find_object pass.note.name d.objects ≡ found → pass.note.offset ≤ (unwrap_or found (record { name = pass.note.name; length = 0; versions = [] })).length
      begins_there None at =
          let none : length_in pass.note.name (lengths_of d) ≡ None = sym (length_found pass.note.name d.objects) ∙ ap (option_map (λ (o : Object). o.length)) at in
          absurd (none-some reply.NoSuch (sym accepted ∙ ap (refusal_by d.max Kind.Write pass.note.offset pass.note.length) none))
      begins_there (Some object) at =
          let is : length_in pass.note.name (lengths_of d) ≡ Some object.length = sym (length_found pass.note.name d.objects) ∙ ap (option_map (λ (o : Object). o.length)) at in
          refused_past object.length (ap (refusal_by d.max Kind.Write pass.note.offset pass.note.length) (sym is) ∙ accepted)

      first_there : pass.note.offset / stripe_length d.shape ≤ length (object_or_new pass.note.name d.objects).versions
      first_there =
          subst (λ n. pass.note.offset / stripe_length d.shape ≤ n) (sym (count_there d sound pass.note.name))
          (first_fits (stripe_length d.shape) some pass.note.offset (object_or_new pass.note.name d.objects).length (begins_there (find_object pass.note.name d.objects) refl))

    -- the object that the commit makes
    changed_fits : (pass.note.kind ≡ Kind.Put) ⊎ ((pass.note.kind ≡ Kind.Write) × (pass.base ≡ last_change pass.note.name d.points))
        → ObjectFits (stripes_in d.versions) (changed_object pass.note.kind d pass (object_or_new pass.note.name d.objects))
    changed_fits (inl e) =
        subst (λ k. ObjectFits (stripes_in d.versions) (changed_object k d pass (object_or_new pass.note.name d.objects))) (sym e)
        (whole_fits (stripes_in d.versions) d.shape some pass (right Kind.Put e).0 its)
    changed_fits (inr h) =
        subst (λ k. ObjectFits (stripes_in d.versions) (changed_object k d pass (object_or_new pass.note.name d.objects))) (sym h.0)
        (written_fits (stripes_in d.versions) (pass.note.offset / stripe_length d.shape) pass.drawn (object_or_new pass.note.name d.objects).versions (first_there h.0 (right Kind.Write h.0) h.1) its.drawn
        (old_fits (stripes_in d.versions) pass.note.name d.objects own.objects))

    commit_fits : (placed : List (List Placement)) → (pass.note.kind ≡ Kind.Put) ⊎ (pass.note.kind ≡ Kind.Write) → Fits (commit placed pass d).0
    commit_fits placed writes = by (is_overtaken pass.note.kind pass.base (last_change pass.note.name d.points)) refl
      where
        not_overtaken : (pass.note.kind ≡ Kind.Put) ⊎ (pass.note.kind ≡ Kind.Write) → is_overtaken pass.note.kind pass.base (last_change pass.note.name d.points) ≡ false
            → (pass.note.kind ≡ Kind.Put) ⊎ ((pass.note.kind ≡ Kind.Write) × (pass.base ≡ last_change pass.note.name d.points))
        not_overtaken (inl e) none = inl e
        not_overtaken (inr e) none =
            inr (
              e,
              same_point_is pass.base (last_change pass.note.name d.points)
                  (not-false (same_point pass.base (last_change pass.note.name d.points)) (subst (λ k. is_overtaken k pass.base (last_change pass.note.name d.points) ≡ false) e none)),
            )

        by : (b : Bool) → is_overtaken pass.note.kind pass.base (last_change pass.note.name d.points) ≡ b
            → Fits (cond {A = Directory × Told} b (close_pass pass (give_up_drawn pass d), Told.Changed (unwrap_or pass.base 0) (unwrap_or (last_change pass.note.name d.points) 0)) (commit_object placed pass (object_or_new pass.note.name d.objects) d)).0
        by true e = record { objects = own.objects; passes = closed_fit (stripes_in d.versions) d.shape pass d.passes own.passes }
        by false e =
            record {
              objects = put_fits (stripes_in d.versions) (changed_object pass.note.kind d pass (object_or_new pass.note.name d.objects)) d.objects (changed_fits (not_overtaken writes e)) own.objects;
              passes = closed_fit (stripes_in d.versions) d.shape pass d.passes own.passes;
            }

  -- ---- a draw
  module _ (pass : Pass) (held : IsHeld d pass) where
    abbrev news : List Version
    news = map (new_version pass) (touched d pass.note)

    grown_is : stripes_in (d.versions ++ map (new_version pass) (touched d pass.note)) ≡ stripes_in d.versions ++ stripes_in (map (new_version pass) (touched d pass.note))
    grown_is = map-append (λ (version : Version). version.stripe) d.versions (map (new_version pass) (touched d pass.note))

    -- the stripes of earlier versions
    early : (v s : ℕ) → v < length d.versions → IsOfStripe (stripes_in d.versions) v s → IsOfStripe (stripes_in (d.versions ++ map (new_version pass) (touched d pass.note))) v s
    early v s less h =
        ap (λ l. get_or l v s) grown_is
        ∙ get_or_append_left (stripes_in d.versions) (stripes_in (map (new_version pass) (touched d pass.note))) s v (subst (λ n. v < n) (sym (length-map d.versions (λ (version : Version). version.stripe))) less)
        ∙ h

    numbers_early : (first : ℕ) (numbers : List ℕ) → All (λ v. v < length d.versions) numbers → AreFrom (stripes_in d.versions) first numbers
        → AreFrom (stripes_in (d.versions ++ map (new_version pass) (touched d pass.note))) first numbers
    numbers_early first numbers there h = λ place less. early (get_or numbers place 0) (first + place) (there place 0 less) (h place less)

    object_early : (object : Object) → HasItsVersions d object → ObjectFits (stripes_in d.versions) object → ObjectFits (stripes_in (d.versions ++ map (new_version pass) (touched d pass.note))) object
    object_early object has h = numbers_early 0 object.versions (All-weaker (Stands d Standing.Current) (λ v. v < length d.versions) (λ v k. k.1) object.versions has.current) h

    pass_early : (other : Pass) → HasVersions d other → IsOfItsStripes (stripes_in d.versions) d.shape other → IsOfItsStripes (stripes_in (d.versions ++ map (new_version pass) (touched d pass.note))) d.shape other
    pass_early other has h =
        record {
          pinned = λ k x less. early (get_or other.pinned k x).version (get_or other.pinned k x).stripe (has.pinned k x less) (h.pinned k x less);
          drawn = numbers_early (other.note.offset / stripe_length d.shape) other.drawn has.drawn h.drawn;
        }

    -- the stripes of the new ones
    abbrev count : ℕ
    count = length (touched d pass.note)

    late : (place : ℕ) → place < length (touched d pass.note)
        → IsOfStripe (stripes_in (d.versions ++ map (new_version pass) (touched d pass.note))) (length d.versions + place) (pass.note.offset / stripe_length d.shape + place)
    late place less =
        ap (λ l. get_or l (length d.versions + place) (pass.note.offset / stripe_length d.shape + place)) grown_is
        ∙ get_or-append_right (stripes_in d.versions) (stripes_in (map (new_version pass) (touched d pass.note))) (length d.versions) (length d.versions + place) (pass.note.offset / stripe_length d.shape + place)
        (length-map d.versions (λ (version : Version). version.stripe)) (omega arith)
        ∙ ap (λ k. get_or (stripes_in (map (new_version pass) (touched d pass.note))) k (pass.note.offset / stripe_length d.shape + place)) (let back : length d.versions + place - length d.versions ≡ place = omega arith in back)
        ∙ ap (λ l. get_or l place (pass.note.offset / stripe_length d.shape + place)) (stripes_are (touched d pass.note))
        ∙ get_or-range_with_len (pass.note.offset / stripe_length d.shape) (stripes_met (stripe_length d.shape) pass.note.offset (pass.note.offset + pass.note.length - pass.note.offset)) place (pass.note.offset / stripe_length d.shape + place)
        (subst (λ n. place < n) (length-range_with_len (pass.note.offset / stripe_length d.shape) (stripes_met (stripe_length d.shape) pass.note.offset (pass.note.offset + pass.note.length - pass.note.offset))) less)
      where
        stripes_are : (stripes : List ℕ) → stripes_in (map (new_version pass) stripes) ≡ stripes
        stripes_are [] = refl
        stripes_are (s ∷ stripes) = ap (λ l. s ∷ l) (stripes_are stripes)

    abbrev numbers : List ℕ
    numbers = range_with_len (length d.versions) (length (touched d pass.note))

    drew : (other : Pass) → pass ≡ other → HasVersions d other → IsOfItsStripes (stripes_in d.versions) d.shape other
        → IsOfItsStripes (stripes_in (d.versions ++ map (new_version pass) (touched d pass.note))) d.shape (record other { drawn = range_with_len (length d.versions) (length (touched d pass.note)) })
    drew other same has h =
        record {
          pinned = (pass_early other has h).pinned;
          drawn = λ place less.
              let fits : place < length (touched d pass.note) = subst (λ n. place < n) (length-range_with_len (length d.versions) (length (touched d pass.note))) less in
              let at : get_or (range_with_len (length d.versions) (length (touched d pass.note))) place 0 ≡ length d.versions + place = get_or-range_with_len (length d.versions) (length (touched d pass.note)) place 0 fits in
              subst (λ v. IsOfStripe (stripes_in (d.versions ++ map (new_version pass) (touched d pass.note))) v (other.note.offset / stripe_length d.shape + place)) (sym at)
              (subst (λ (p : Pass). IsOfStripe (stripes_in (d.versions ++ map (new_version pass) (touched d pass.note))) (length d.versions + place) (p.note.offset / stripe_length d.shape + place)) same (late place fits));
        }

    draw_fits : AreOwn (stripes_in (draw pass d).0.versions) d.shape (draw pass d).0.objects (draw pass d).0.passes
    draw_fits =
        record {
          objects = λ k x less. object_early (get_or d.objects k x) (sound.objects k x less) (own.objects k x less);
          passes =
              All-map (IsOfItsStripes (stripes_in (d.versions ++ map (new_version pass) (touched d pass.note))) d.shape)
              (λ (other : Pass). cond {A = Pass} (same_actor pass.actor other.actor) (record other { drawn = range_with_len (length d.versions) (length (touched d pass.note)) }) other) d.passes
              (λ k x less. one (get_or d.passes k x) (Contains-get_or d.passes k x less) (sound.versions k x less) (own.passes k x less));
        }
      where
        one : (other : Pass) → Contains d.passes other → HasVersions d other → IsOfItsStripes (stripes_in d.versions) d.shape other
            → IsOfItsStripes (stripes_in (d.versions ++ map (new_version pass) (touched d pass.note))) d.shape
            (cond {A = Pass} (same_actor pass.actor other.actor) (record other { drawn = range_with_len (length d.versions) (length (touched d pass.note)) }) other)
        one other c has h =
            cond_both {A = Pass} (same_actor pass.actor other.actor) (record other { drawn = range_with_len (length d.versions) (length (touched d pass.note)) }) other
            (IsOfItsStripes (stripes_in (d.versions ++ map (new_version pass) (touched d pass.note))) d.shape)
            (λ same. drew other (one_pass d sound pass other held c same) has h) (λ _. pass_early other has h)

  -- ---- each step
  -- a step that draws nothing
  made_fits : (who : Actor) (number : ℕ) (step : DirectoryStep) → MayStep d who number step → is_draw step ≡ false → Fits (made_at_directory who number step d).0
  made_fits who number (DirectoryStep.Look note) may other = look_fits who number note (refusal d.max note (option_map (λ (o : Object). o.length) (find_object note.name d.objects)))
  made_fits who number (DirectoryStep.LookRepair note) may other =
      repair_fits who number note (find_object note.name d.objects) (found_has (ObjectFits (stripes_in d.versions)) (λ (o : Object). bytes_eq note.name o.name) d.objects own.objects)
  made_fits who number DirectoryStep.Draw may other = absurd (false≢true (sym other))
  made_fits who number (DirectoryStep.Commit placed) may other =
      on_pass_fits who (commit placed)
      (λ pass e.
      let same : may.0 ≡ pass = same_Some may.0 pass (sym may.1.is_pass ∙ e) in
      commit_fits pass (held_pass who d pass e) placed (subst (λ (p : Pass). (p.note.kind ≡ Kind.Put) ⊎ (p.note.kind ≡ Kind.Write)) same may.1.kind))
  made_fits who number DirectoryStep.End may other = on_pass_fits who end_pass (λ pass e. record { objects = own.objects; passes = closed_fit (stripes_in d.versions) d.shape pass d.passes own.passes })
  made_fits who number DirectoryStep.Confirm may other = on_pass_fits who confirm (λ pass e. confirm_fits pass)
  made_fits who number (DirectoryStep.Repaired server epoch) may other =
      on_pass_fits who (repaired server epoch) (λ pass e. record { objects = own.objects; passes = closed_fit (stripes_in d.versions) d.shape pass d.passes own.passes })
  made_fits who number DirectoryStep.NextGarbage may other = take_fits (first_garbage d)
  made_fits who number (DirectoryStep.Swept version) may other = record { objects = own.objects; passes = own.passes }
  made_fits who number (DirectoryStep.Reap reaped) may other = reap_fits (pass_of reaped d)

  -- the directory after a step
  abbrev OwnAfter : Directory → Type 0
  OwnAfter after = AreOwn (stripes_in after.versions) after.shape after.objects after.passes

  moved : (who : Actor) (number : ℕ) (step : DirectoryStep) → MayStep d who number step → is_draw step ≡ false → OwnAfter (at_directory false who number step d).0
  moved who number step may other = by (versions_move false who number step d).moved
    where
      made : (takes : Bool) → Fits (unless_short false takes who number step d).0
      made true = made_fits who number step may other
      made false = made_fits who number step may other

      after : Directory
      after = (at_directory false who number step d).0

      by : (origins (at_directory false who number step d).0.versions ≡ origins d.versions) ⊎ Draws who step d (at_directory false who number step d).0 → OwnAfter (at_directory false who number step d).0
      by (inl e) =
          subst (λ g. AreOwn (stripes_in (at_directory false who number step d).0.versions) g (at_directory false who number step d).0.objects (at_directory false who number step d).0.passes) (sym (versions_move false who number step d).shape)
          (subst (λ l. AreOwn l d.shape (at_directory false who number step d).0.objects (at_directory false who number step d).0.passes) (sym (same_stripes d.versions (at_directory false who number step d).0.versions e)) (made (takes_memory step)))
      by (inr draws) = absurd (false≢true (sym other ∙ ap is_draw draws.is_draw))

  -- a draw
  drawn : (who : Actor) (found : Option Pass) → pass_of who d ≡ found → OwnAfter (on_pass draw found d).0
  drawn who None e = own
  drawn who (Some pass) e = by pass.reaped
    where
      by : (reaped : Option ℕ) → OwnAfter (unless_reaped draw pass reaped d).0
      by None = draw_fits pass (held_pass who d pass e)
      by (Some point) = closed pass

  pub own_kept : (who : Actor) (number : ℕ) (step : DirectoryStep) → MayStep d who number step → OwnAfter (at_directory false who number step d).0
  own_kept who number DirectoryStep.Draw may = drawn who (pass_of who d) refl
  own_kept who number (DirectoryStep.Look note) may = moved who number (DirectoryStep.Look note) may refl
  own_kept who number (DirectoryStep.LookRepair note) may = moved who number (DirectoryStep.LookRepair note) may refl
  own_kept who number (DirectoryStep.Commit placed) may = moved who number (DirectoryStep.Commit placed) may refl
  own_kept who number DirectoryStep.End may = moved who number DirectoryStep.End may refl
  own_kept who number DirectoryStep.Confirm may = moved who number DirectoryStep.Confirm may refl
  own_kept who number (DirectoryStep.Repaired server epoch) may = moved who number (DirectoryStep.Repaired server epoch) may refl
  own_kept who number DirectoryStep.NextGarbage may = moved who number DirectoryStep.NextGarbage may refl
  own_kept who number (DirectoryStep.Swept version) may = moved who number (DirectoryStep.Swept version) may refl
  own_kept who number (DirectoryStep.Reap reaped) may = moved who number (DirectoryStep.Reap reaped) may refl
