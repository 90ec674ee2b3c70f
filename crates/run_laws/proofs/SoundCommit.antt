-- A commit keeps a directory sound.
use Rattle.std.proofs.Common.{◌≡◌, ◌≢◌, ◌⊎◌, ℕ, suc, ◌+◌, ◌-◌, ◌/◌, ◌<◌, ◌≤◌, max, nat_lt, Bool, true, false, cond, not, List, [], ◌∷◌, ◌++◌, length, take, drop, filter, zip, slice_get, Option, None, Some, option_map, unwrap_or, All, Contains, bytes_eq, refl, sym, ap, subst, ◌∙◌, inl, inr, arith, zero-add, length-append, length-drop}
use Rattle.std.proofs.lemmas.Bool.{true≢false, false≢true, eqb-true, ltb-false, not-false}
use Rattle.std.proofs.lemmas.Option.{same_Some, none-some}
use Rattle.std.proofs.lemmas.List.{length-take-le, take_all}
use Rattle.std.proofs.lemmas.List.Elements.{All-contains}
use Rattle.clay_grid.specs.Shape.{stripe_length}
use Rattle.store_map.specs.Limits.{stripes_met}
use Rattle.store_map.specs.declared.actor.Actor.{Actor}
use Rattle.store_map.specs.declared.reply.Reply.{Reply}
use Rattle.store_map.specs.declared.reply.Reply.TheVariants as reply
use Rattle.store_map.specs.declared.placement.Placement.{Placement}
use Rattle.store_core.specs.Told.{Told}
use Rattle.store_core.specs.Note.{Note, Kind, refusal_of_size, refusal_by, refusal}
use Rattle.store_core.specs.Directory.{Object, Standing, Pass, Event, Point, Directory}
use Rattle.store_core.specs.Lookups.{same_actor, find_object, pass_of, last_change}
use Rattle.store_core.specs.PassSteps.{close_pass, give_up_drawn}
use Rattle.store_core.specs.Look.{set_standing}
use Rattle.store_core.specs.Commit.{same_point, is_overtaken, put_object, place_all, changed_object, dropped_by, commit_object, commit}
use Rattle.store_core.specs.AtDirectory.{on_pass}
use Rattle.store_core.specs.Lengths.{length_in, put_length, found_length, apply_length}
use Rattle.store_core.specs.Replay.{FitsEvent, lengths_after}
use Rattle.store_core.specs.SoundPasses.{Stands, HasBase, IsRight, IsLive, IsOfItsCall}
use Rattle.store_core.specs.Sound.{HasItsVersions, AreInOrder, IsSound, lengths_of}
use Rattle.store_core.specs.Conditions.{IsWriting, IsPrepared}
use Rattle.store_core.proofs.TouchedStripes.{count_touched}
use Rattle.run_laws.proofs.SoundLists.{at_all, found_at}
use Rattle.run_laws.proofs.SoundHistory.{same_name, lengths_unless, replied, applied, same_reply, ok_accepted, Last, last_of, replays_end, marked_of}
use Rattle.run_laws.proofs.SoundParts.{RightThere}
use Rattle.run_laws.proofs.SoundClose.{IsHeld, closed_sound, left_passes, drawn_apart}
use Rattle.run_laws.proofs.SoundEnd.{on_pass_sound, live_pass, ended_sound}
use Rattle.run_laws.proofs.SoundObjects.{length_found}
use Rattle.run_laws.proofs.SoundChanged.{ComesFrom, all_drawn, laid_over, versions_of, CanBePut, object_put_sound}
use Rattle.run_laws.proofs.SoundStripes.{count_written, first_fits}

-- ---- points
-- the test says that they are equal
same_point_is : (a b : Option ℕ) → same_point a b ≡ true → a ≡ b
same_point_is None None e = refl
same_point_is (Some p) (Some q) e = ap Some (eqb-true p q e)
same_point_is None (Some q) e = absurd (false≢true e)
same_point_is (Some p) None e = absurd (false≢true e)

-- a put or a write can't have a pinned point
unpinned : (kind : Kind) (answer : Reply) → (kind ≡ Kind.Put) ⊎ (kind ≡ Kind.Write) → FitsEvent Event.Pinned kind answer → ⊥
unpinned kind answer (inl e) h = subst (λ k. FitsEvent Event.Pinned k answer) e h
unpinned kind answer (inr e) h = subst (λ k. FitsEvent Event.Pinned k answer) e h

module _ (d : Directory) (sound : IsSound d) (some : 0 < stripe_length d.shape) (pass : Pass) (held : IsHeld d pass) (live : pass.reaped ≡ None) (placed : List (List Placement)) (ready : IsPrepared d pass placed) where
  -- the directory without the pass
  abbrev without : Directory
  without = close_pass pass d

  -- the point of the commit
  abbrev point : Point
  point = record { actor = pass.actor; number = pass.number; note = pass.note; event = Event.Done }

  -- what is known of the pass
  now : IsLive d pass
  now = live_pass d sound pass held live

  -- ---- the point
  -- the point comes after the earlier points of its actor, and is the call's one point that is no reap
  in_order : (pass.note.kind ≡ Kind.Put) ⊎ (pass.note.kind ≡ Kind.Write) → (earlier : Point) → Contains d.points earlier → AreInOrder earlier point
  in_order writes earlier has = record { numbers = its.not_later; once = λ same e other. absurd (no_other other (its.own same e)) }
    where
      its : IsOfItsCall pass earlier
      its = All-contains (IsOfItsCall pass) d.points earlier (All-contains (λ (p : Pass). All (IsOfItsCall p) d.points) d.passes pass sound.newest held.has) has

      marked : (answer : Reply) × FitsEvent earlier.event earlier.note.kind answer
      marked = marked_of d.max [] d.points (lengths_of d) earlier sound.history has

      no_other : earlier.event ≢ Event.Reaped → ((earlier.event ≡ Event.Reaped) ⊎ ((earlier.event ≡ Event.Pinned) × (earlier.note ≡ pass.note))) → ⊥
      no_other other (inl reaped) = other reaped
      no_other other (inr h) =
          unpinned pass.note.kind marked.0 writes
          (subst (λ (n : Note). FitsEvent Event.Pinned n.kind marked.0) h.1 (subst (λ m. FitsEvent m earlier.note.kind marked.0) h.0 marked.1))

  -- the point is of no other pass's call
  of_others : (other : Pass) → Contains without.passes other → IsOfItsCall other point
  of_others other has =
      let apart : same_actor pass.actor other.actor ≡ false = (left_passes pass d other has).1 in
      record { not_later = λ same. absurd (true≢false (sym same ∙ apart)); own = λ same _. absurd (true≢false (sym same ∙ apart)) }

  -- the directory after a commit that makes this object of an old one and drops these versions of that
  abbrev put_there : List ℕ → Object → Directory
  put_there dropped new =
      record d {
        objects = put_object new d.objects;
        versions = set_standing Standing.Superseded dropped (place_all (zip pass.drawn placed) d.versions);
        passes = filter (λ other. not (same_actor pass.actor other.actor)) d.passes;
        points = d.points ++ point ∷ [];
      }

  -- ---- an object that can be put
  -- the object has what it owes
  puts : (new : Object) (found : Option Object) (dropped : List ℕ) → find_object new.name d.objects ≡ found → ComesFrom (versions_of found) pass.drawn dropped new.versions
      → length new.versions ≡ stripes_met (stripe_length d.shape) 0 new.length → CanBePut without new found pass.drawn dropped placed
  puts new found dropped e comes count =
      record {
        is_found = e;
        comes = comes;
        is_drawn = λ n c. All-contains (Stands d Standing.Drawn) pass.drawn n now.drawn c;
        differ = now.differ;
        left = λ other has _ n mine others.
            let left : Contains d.passes other × (same_actor pass.actor other.actor ≡ false) = left_passes pass d other has in
            drawn_apart d sound pass other held left.0 left.1 n mine others;
        one_each = ready.rows;
        whole = ready.whole;
        count = count;
      }

  -- as many versions were drawn as stripes are touched
  drawn_count : length pass.drawn ≡ stripes_met (stripe_length d.shape) pass.note.offset pass.note.length
  drawn_count = ready.drawn ∙ count_touched d.shape pass.note

  -- an object that isn't there yet
  abbrev nothing : Object
  nothing = record { name = pass.note.name; length = 0; versions = [] }

  -- the object that is changed has the call's name
  old_name : (found : Option Object) → find_object pass.note.name d.objects ≡ found → (unwrap_or found nothing).name ≡ pass.note.name
  old_name None e = refl
  old_name (Some object) e = sym (same_name pass.note.name object.name (found_at (λ (o : Object). bytes_eq pass.note.name o.name) d.objects object e).2)

  -- what the map replies ok leaves, by the kind of call
  accepted : (apply_length d.max pass.note (lengths_of d)).1 ≡ reply.Done → refusal d.max pass.note (length_in pass.note.name (lengths_of d)) ≡ None
  accepted done = ok_accepted d.max pass.note (length_in pass.note.name (lengths_of d)) (sym (replied d.max pass.note (lengths_of d)) ∙ done)

  -- what lengths the call leaves
  left_lengths : (kind : Kind) → pass.note.kind ≡ kind → (apply_length d.max pass.note (lengths_of d)).1 ≡ reply.Done → (apply_length d.max pass.note (lengths_of d)).0 ≡ lengths_unless kind pass.note (lengths_of d) None
  left_lengths kind e done =
      applied d.max pass.note (lengths_of d) ∙ ap (lengths_unless pass.note.kind pass.note (lengths_of d)) (accepted done) ∙ ap (λ k. lengths_unless k pass.note (lengths_of d) None) e

  -- ---- a put
  module _ (e : pass.note.kind ≡ Kind.Put) (right : IsRight d pass Kind.Put) where
    -- the map replies ok to the put
    put_done : (apply_length d.max pass.note (lengths_of d)).1 ≡ reply.Done
    put_done =
        subst (λ l. (apply_length d.max pass.note l).1 ≡ reply.Done) (ap (lengths_after d.max) (take_all (length d.points) d.points (omega arith)) ∙ replays_end d.max [] d.points (lengths_of d) sound.history)
        (right.1 (length d.points) (omega arith))

    -- the object's count of stripes
    put_count : length pass.drawn ≡ stripes_met (stripe_length d.shape) 0 pass.note.length
    put_count = drawn_count ∙ ap (λ n. stripes_met (stripe_length d.shape) n pass.note.length) right.0

    -- the object that a put makes
    abbrev whole_object : Object → Object
    whole_object old = record { name = old.name; length = pass.note.length; versions = pass.drawn }

    -- the put keeps the directory sound
    put_sound : (found : Option Object) → find_object pass.note.name d.objects ≡ found → IsSound (commit_object placed pass (unwrap_or found nothing) d).0
    put_sound found at = by found at (old_name found at)
      where
        moved : (name : List ℕ) → name ≡ pass.note.name → (apply_length d.max pass.note (lengths_of d)).0 ≡ put_length name pass.note.length (lengths_of d)
        moved name same = left_lengths Kind.Put e put_done ∙ ap (λ n. put_length n pass.note.length (lengths_of d)) (sym same)

        marked : FitsEvent Event.Done pass.note.kind (apply_length d.max pass.note (lengths_of d)).1
        marked = subst (λ k. FitsEvent Event.Done k (apply_length d.max pass.note (lengths_of d)).1) (sym e) put_done

        -- the commit, by what its kind makes of the object
        kinds : (old : Object) → IsSound (put_there old.versions (whole_object old)) → IsSound (commit_object placed pass old d).0
        kinds old h = subst (λ k. IsSound (put_there (dropped_by k d pass old.versions) (changed_object k d pass old))) (sym e) h

        by : (found : Option Object) → find_object pass.note.name d.objects ≡ found → (unwrap_or found nothing).name ≡ pass.note.name → IsSound (commit_object placed pass (unwrap_or found nothing) d).0
        by None at same =
            kinds nothing
            (object_put_sound without (closed_sound pass d sound) (whole_object nothing) None pass.drawn [] placed (puts (whole_object nothing) None [] at (all_drawn [] pass.drawn) put_count) point
            refl refl marked (moved pass.note.name refl) (in_order (inl e)) of_others)
        by (Some object) at same =
            kinds object
            (object_put_sound without (closed_sound pass d sound) (whole_object object) (Some object) pass.drawn object.versions placed
            (puts (whole_object object) (Some object) object.versions (ap (λ n. find_object n d.objects) same ∙ at) (all_drawn object.versions pass.drawn) put_count) point
            (sym same) refl marked (moved object.name same) (in_order (inl e)) of_others)

  -- ---- a write
  module _ (e : pass.note.kind ≡ Kind.Write) (base : HasBase d pass) (same_base : pass.base ≡ last_change pass.note.name d.points) where
    -- the map replies ok to the write, since nothing changed its object after the base
    write_done : (apply_length d.max pass.note (lengths_of d)).1 ≡ reply.Done
    write_done = by (last_of d.max pass.note.name 0 None [] d.points (lengths_of d) sound.history)
      where
        by : Last d.max pass.note.name 0 None [] d.points (lengths_of d) → (apply_length d.max pass.note (lengths_of d)).1 ≡ reply.Done
        by (inl none) = absurd (none-some base.base (sym none.0 ∙ sym same_base ∙ base.is_base))
        by (inr h) =
            let here : base.base ≡ h.place = same_Some base.base h.place (sym base.is_base ∙ same_base ∙ h.last ∙ ap Some (zero-add h.place)) in
            let next : base.base + 1 ≡ suc h.place = omega (arith, here) in
            sym (same_reply d.max pass.note (lengths_after d.max (take (suc h.place) d.points)) (lengths_of d) h.same)
            ∙ subst (λ n. (apply_length d.max pass.note (lengths_after d.max (take n d.points))).1 ≡ reply.Done) next base.allowed

    -- the write begins in its object, or at its end
    refused_past : (n : ℕ) → refusal_by d.max Kind.Write pass.note.offset pass.note.length (Some n) ≡ None → pass.note.offset ≤ n
    refused_past n none = by (nat_lt n pass.note.offset) refl none
      where
        by : (b : Bool) → nat_lt n pass.note.offset ≡ b → cond {A = Option Reply} b (Some reply.OutRange) (refusal_of_size d.max (pass.note.offset + pass.note.length)) ≡ None → pass.note.offset ≤ n
        by true f g = absurd (none-some reply.OutRange (sym g))
        by false f g = ltb-false n pass.note.offset f

    -- so the map refuses it for no reason
    write_accepted : refusal_by d.max Kind.Write pass.note.offset pass.note.length (length_in pass.note.name (lengths_of d)) ≡ None
    write_accepted = subst (λ k. refusal_by d.max k pass.note.offset pass.note.length (length_in pass.note.name (lengths_of d)) ≡ None) e (accepted write_done)

    -- the object that a write makes
    abbrev written_object : Object → Object
    written_object old =
        record {
          name = old.name;
          length = max old.length (pass.note.offset + pass.note.length);
          versions = take (pass.note.offset / stripe_length d.shape) old.versions ++ pass.drawn ++ drop (pass.note.offset / stripe_length d.shape + length pass.drawn) old.versions;
        }

    -- the write keeps the directory sound
    write_sound : (found : Option Object) → find_object pass.note.name d.objects ≡ found → IsSound (commit_object placed pass (unwrap_or found nothing) d).0
    write_sound None at =
        let none : length_in pass.note.name (lengths_of d) ≡ None = sym (length_found pass.note.name d.objects) ∙ ap (option_map (λ (o : Object). o.length)) at in
        absurd (none-some reply.NoSuch (sym write_accepted ∙ ap (refusal_by d.max Kind.Write pass.note.offset pass.note.length) none))
    write_sound (Some object) at =
        subst (λ k. IsSound (put_there (dropped_by k d pass object.versions) (changed_object k d pass object))) (sym e)
        (object_put_sound without (closed_sound pass d sound) (written_object object) (Some object) pass.drawn (take (length pass.drawn) (drop first object.versions)) placed
        (puts (written_object object) (Some object) (take (length pass.drawn) (drop first object.versions)) (ap (λ n. find_object n d.objects) same ∙ at) (laid_over object.versions pass.drawn first fits) count) point
        (sym same) refl (subst (λ k. FitsEvent Event.Done k (apply_length d.max pass.note (lengths_of d)).1) (sym e) write_done) moved (in_order (inr e)) of_others)
      where
        first : ℕ
        first = pass.note.offset / stripe_length d.shape

        same : object.name ≡ pass.note.name
        same = old_name (Some object) at

        length_is : length_in pass.note.name (lengths_of d) ≡ Some object.length
        length_is = sym (length_found pass.note.name d.objects) ∙ ap (option_map (λ (o : Object). o.length)) at

        place : (i : ℕ) × (slice_get d.objects i ≡ Some object) × (bytes_eq pass.note.name object.name ≡ true)
        place = found_at (λ (o : Object). bytes_eq pass.note.name o.name) d.objects object at

        its : HasItsVersions d object
        its = at_all (HasItsVersions d) d.objects place.0 object sound.objects place.1

        within : pass.note.offset ≤ object.length
        within = refused_past object.length (ap (refusal_by d.max Kind.Write pass.note.offset pass.note.length) (sym length_is) ∙ write_accepted)

        fits : first ≤ length object.versions
        fits = subst (λ n. first ≤ n) (sym its.count) (first_fits (stripe_length d.shape) some pass.note.offset object.length within)

        moved : (apply_length d.max pass.note (lengths_of d)).0 ≡ put_length object.name (max object.length (pass.note.offset + pass.note.length)) (lengths_of d)
        moved =
            left_lengths Kind.Write e write_done
            ∙ ap (λ o. put_length pass.note.name (max (found_length o) (pass.note.offset + pass.note.length)) (lengths_of d)) length_is
            ∙ ap (λ n. put_length n (max object.length (pass.note.offset + pass.note.length)) (lengths_of d)) (sym same)

        counted : (a k c : ℕ) → length (take first object.versions ++ pass.drawn) ≡ a + k → length (drop (first + length pass.drawn) object.versions) ≡ c - (a + k)
            → length (take first object.versions ++ pass.drawn) + length (drop (first + length pass.drawn) object.versions) ≡ a + (k + (c - (a + k)))
        counted a k c x y = omega (arith, x, y)

        count : length (take first object.versions ++ pass.drawn ++ drop (first + length pass.drawn) object.versions) ≡ stripes_met (stripe_length d.shape) 0 (max object.length (pass.note.offset + pass.note.length))
        count =
            length-append (take first object.versions ++ pass.drawn) (drop (first + length pass.drawn) object.versions)
            ∙ counted first (stripes_met (stripe_length d.shape) pass.note.offset pass.note.length) (stripes_met (stripe_length d.shape) 0 object.length) front back
            ∙ count_written (stripe_length d.shape) some pass.note.offset pass.note.length object.length within
          where
            front : length (take first object.versions ++ pass.drawn) ≡ first + stripes_met (stripe_length d.shape) pass.note.offset pass.note.length
            front = length-append (take first object.versions) pass.drawn ∙ ap (λ n. n + length pass.drawn) (length-take-le first object.versions fits) ∙ ap (λ n. first + n) drawn_count

            back : length (drop (first + length pass.drawn) object.versions) ≡ stripes_met (stripe_length d.shape) 0 object.length - (first + stripes_met (stripe_length d.shape) pass.note.offset pass.note.length)
            back = length-drop (first + length pass.drawn) object.versions ∙ ap (λ n. n - (first + length pass.drawn)) its.count ∙ ap (λ n. stripes_met (stripe_length d.shape) 0 object.length - (first + n)) drawn_count

-- ---- each commit
pub commit_sound : (who : Actor) (placed : List (List Placement)) (d : Directory) → 0 < stripe_length d.shape → IsSound d → ((pass : Pass) × IsWriting d who pass × IsPrepared d pass placed)
    → IsSound (on_pass (commit placed) (pass_of who d) d).0
commit_sound who placed d some sound may =
    on_pass_sound who d sound (commit placed)
    (λ pass e held live.
    let same : may.0 ≡ pass = same_Some may.0 pass (sym may.1.is_pass ∙ e) in
    committed pass held live (subst (λ (p : Pass). IsPrepared d p placed) same may.2) (subst (λ (p : Pass). (p.note.kind ≡ Kind.Put) ⊎ (p.note.kind ≡ Kind.Write)) same may.1.kind))
  where
    committed : (pass : Pass) → IsHeld d pass → pass.reaped ≡ None → IsPrepared d pass placed → (pass.note.kind ≡ Kind.Put) ⊎ (pass.note.kind ≡ Kind.Write) → IsSound (commit placed pass d).0
    committed pass held live ready writes = by (is_overtaken pass.note.kind pass.base (last_change pass.note.name d.points)) refl
      where
        right : (kind : Kind) → pass.note.kind ≡ kind → IsRight d pass kind
        right kind e = subst (IsRight d pass) e (All-contains (RightThere d) d.passes pass sound.calls held.has)

        not_overtaken : (pass.note.kind ≡ Kind.Put) ⊎ (pass.note.kind ≡ Kind.Write) → is_overtaken pass.note.kind pass.base (last_change pass.note.name d.points) ≡ false
            → IsSound (commit_object placed pass (unwrap_or (find_object pass.note.name d.objects) (record { name = pass.note.name; length = 0; versions = [] })) d).0
        not_overtaken (inl e) none = put_sound d sound some pass held live placed ready e (right Kind.Put e) (find_object pass.note.name d.objects) refl
        not_overtaken (inr e) none =
            let base_same : same_point pass.base (last_change pass.note.name d.points) ≡ true =
            not-false (same_point pass.base (last_change pass.note.name d.points)) (subst (λ k. is_overtaken k pass.base (last_change pass.note.name d.points) ≡ false) e none) in
            write_sound d sound some pass held live placed ready e (right Kind.Write e) (same_point_is pass.base (last_change pass.note.name d.points) base_same) (find_object pass.note.name d.objects) refl

        by : (b : Bool) → is_overtaken pass.note.kind pass.base (last_change pass.note.name d.points) ≡ b
            → IsSound (cond {A = Directory × Told} b (close_pass pass (give_up_drawn pass d), Told.Changed (unwrap_or pass.base 0) (unwrap_or (last_change pass.note.name d.points) 0))
            (commit_object placed pass (unwrap_or (find_object pass.note.name d.objects) (record { name = pass.note.name; length = 0; versions = [] })) d)).0
        by true e = ended_sound d sound pass held live
        by false e = not_overtaken writes e
