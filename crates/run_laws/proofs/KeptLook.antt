-- The two looks keep the directory's bytes those of the map.
use Rattle.std.proofs.Common.{◌≡◌, ◌⊎◌, ℕ, nat_lt, false, List, [], ◌∷◌, ◌++◌, length, map, Option, None, Some, option_map, unwrap_or, IfSome, bytes_eq, refl, sym, ap, subst, ◌∙◌, inl, inr}
use Rattle.std.proofs.lemmas.Bool.{cond_both}
use Rattle.std.proofs.lemmas.List.Elements.{All-cons}
use Rattle.store_map.specs.PlainMap.{Objects, bytes_of, delete, apply}
use Rattle.store_map.specs.declared.actor.Actor.{Actor}
use Rattle.store_map.specs.declared.actor.Actor.TheVariants as actor
use Rattle.store_map.specs.declared.call.Call.{Call}
use Rattle.store_map.specs.declared.reply.Reply.{Reply}
use Rattle.store_map.specs.declared.reply.Reply.TheVariants as reply
use Rattle.store_core.specs.Told.{Told, Seen}
use Rattle.store_core.specs.Note.{Note, Kind, note_of, refusal}
use Rattle.store_core.specs.Directory.{Object, Standing, Pass, Event, Point, Directory}
use Rattle.store_core.specs.Lookups.{find_object, last_change, is_ok, is_change}
use Rattle.store_core.specs.Look.{pinned_by, seen_at, pin_of, append_point, begin_pass, without_object, remove_object}
use Rattle.store_core.specs.Looks.{accept, look_by, look, look_repair_by, look_repair}
use Rattle.store_core.specs.Sound.{IsSound}
use Rattle.store_core.specs.Conditions.{IsOfRepairer}
use Rattle.store_core.specs.Content.{contents_by}
use Rattle.run_laws.proofs.SoundLists.{found_at}
use Rattle.run_laws.proofs.SoundHistory.{same_name, refused_is_not_ok}
use Rattle.run_laws.proofs.SoundAdds.{no_change_follows}
use Rattle.run_laws.proofs.SoundDelete.{change_follows}
use Rattle.run_laws.proofs.SoundObjects.{found_after_removal}
use Rattle.run_laws.proofs.SoundLook.{new_pass}
use Rattle.store_core.specs.Calls.{Calls, IsNoteOf}
use Rattle.run_laws.specs.MapAfter.{map_by}
use Rattle.run_laws.specs.Contents.{stripes_in, stored_in, pins_of, HasPins, HasBytes}
use Rattle.run_laws.specs.LengthLaws.{unread}
use Rattle.run_laws.proofs.ContentGrows.{set_keeps}
use Rattle.run_laws.proofs.Maps.{stored_removed, cut_deleted, delete_entry}
use Rattle.run_laws.proofs.Replayed.{map_more, map_called, mapped, quiet_point, delete_made, change_is_no_reap}
use Rattle.run_laws.proofs.ContentCommits.{IsDelete, delete_call}
use Rattle.run_laws.proofs.ContentKept.{KeptThere, passes_kept, point_kept}
use Rattle.run_laws.proofs.KeptDraw.{map_map}

-- ---- a pass begins
-- what it keeps has no part in what was drawn
begun_kept : (calls : Calls) (d : Directory) → HasBytes calls d → (who : Actor) (number : ℕ) (note : Note) (seen : List Seen) (base : Option ℕ)
    → (note.kind ≡ Kind.Rebuild) ⊎ IsNoteOf calls who number note → HasPins d.shape d.objects d.points (new_pass who number note seen base) note.kind
    → HasBytes calls (begin_pass who number note seen base d)
begun_kept calls d has who number note seen base called pins =
    passes_kept calls d (new_pass who number note seen base ∷ d.passes) has
    (All-cons (KeptThere calls d) (new_pass who number note seen base) d.passes (record { call = called; pins = pins; drawn = inl refl }) has.passes)

-- ---- a client's look
module _ (calls : Calls) (d : Directory) (sound : IsSound d) (has : HasBytes calls d) (who : Actor) (number : ℕ) (note : Note) (called : IsNoteOf calls who number note) where
  -- a point of the call
  abbrev point_of : Event → Point
  point_of event = record { actor = who; number = number; note = note; event = event }

  -- one that is no change
  quiet_kept : (event : Event) → is_change event ≡ false → (after : Directory) → IsSound after → after.max ≡ d.max → after.points ≡ d.points ++ point_of event ∷ [] → HasBytes calls (append_point who number note event d)
  quiet_kept event none after now same_max more =
      point_kept calls d d.objects d.versions (point_of event) sound has refl (inr called) (no_change_follows d (point_of event) none)
      (has.contents ∙ sym (ap (stripes_in d.shape) (quiet_point calls d after (point_of event) sound now same_max more has.points (inr called) none)))

  -- an object that isn't there yet
  abbrev new_object : Object
  new_object = record { name = note.name; length = 0; versions = [] }

  module _ (found : Option Object) (is_found : find_object note.name d.objects ≡ found) where
    abbrev object : Object
    object = unwrap_or found new_object

    -- its name
    named : object.name ≡ note.name
    named = by found is_found
      where
        by : (found : Option Object) → find_object note.name d.objects ≡ found → (unwrap_or found new_object).name ≡ note.name
        by None e = refl
        by (Some x) e = sym (same_name note.name x.name (found_at (λ (o : Object). bytes_eq note.name o.name) d.objects x e).2)

    -- what a look saw is what is pinned
    seen_pins : (x : Object) → map pin_of (map (seen_at d x) (pinned_by note.kind d.shape note x.length)) ≡ pins_of d.shape note x
    seen_pins x = map_map pin_of (seen_at d x) (pinned_by note.kind d.shape note x.length)

    -- of a write
    write_pins : HasPins d.shape d.objects d.points (new_pass who number note (map (seen_at d object) (pinned_by note.kind d.shape note object.length)) (last_change note.name d.points)) Kind.Write
    write_pins _ = by found is_found
      where
        by : (found : Option Object) → find_object note.name d.objects ≡ found
            → IfSome (find_object note.name d.objects)
            (λ x. map pin_of (map (seen_at d (unwrap_or found new_object)) (pinned_by note.kind d.shape note (unwrap_or found new_object).length)) ≡ pins_of d.shape note x)
        by None e = subst (λ (o : Option Object). IfSome o (λ x. map pin_of (map (seen_at d new_object) (pinned_by note.kind d.shape note 0)) ≡ pins_of d.shape note x)) (sym e) tt
        by (Some y) e = subst (λ (o : Option Object). IfSome o (λ x. map pin_of (map (seen_at d y) (pinned_by note.kind d.shape note y.length)) ≡ pins_of d.shape note x)) (sym e) (seen_pins y)

    -- a delete
    delete_kept : note.kind ≡ Kind.Delete → IsSound (append_point who number note (Event.Answer reply.Done) (without_object object d)) → HasBytes calls (append_point who number note (Event.Answer reply.Done) (without_object object d))
    delete_kept kind now =
        point_kept calls d (remove_object object.name d.objects) (without_object object d).versions (point_of (Event.Answer reply.Done)) sound has (set_keeps Standing.Superseded object.versions d.versions) (inr called)
        (change_follows d (remove_object object.name d.objects) (point_of (Event.Answer reply.Done)) refl (λ name apart. found_after_removal name object.name d.objects (ap (bytes_eq name) named ∙ apart)))
        stored
      where
        before : Objects
        before = map_by calls d.max d.points

        c : Call
        c = called.0

        is : IsDelete c
        is = delete_call c (ap (λ (n : Note). n.kind) called.2 ∙ kind)

        same : is.name ≡ note.name
        same = ap (λ (n : Note). n.name) (sym (ap note_of is.is) ∙ called.2)

        made : unread (apply d.max c before).1 ≡ reply.Done
        made = mapped calls d (append_point who number note (Event.Answer reply.Done) (without_object object d)) (point_of (Event.Answer reply.Done)) sound now refl refl has.points c called.2

        result : (apply d.max c before).0 ≡ delete note.name before
        result =
            ap (λ x. (apply d.max x before).0) is.is
            ∙ delete_made d.max before is.name (bytes_of is.name before) (ap (λ x. unread (apply d.max x before).1) (sym is.is) ∙ made)
            ∙ ap (λ n. delete n before) same

        stored : stored_in (contents_by d.shape calls d.versions) (remove_object object.name d.objects) ≡ stripes_in d.shape (map_by calls d.max (d.points ++ point_of (Event.Answer reply.Done) ∷ []))
        stored =
            stored_removed (contents_by d.shape calls d.versions) object.name d.objects
            ∙ (λ i. delete_entry (named i) (has.contents i))
            ∙ sym (cut_deleted d.shape note.name before)
            ∙ sym (ap (stripes_in d.shape)
            (map_more calls d.max d.points (point_of (Event.Answer reply.Done))
            ∙ map_called calls d.max before (point_of (Event.Answer reply.Done)) c called.1 (change_is_no_reap (Event.Answer reply.Done) refl)
            ∙ result))

    -- a call that the map doesn't refuse
    pinned_kept : (kind : Kind) (seen : List Seen) → note.kind ≡ kind → ((p : Pass) → HasPins d.shape d.objects (d.points ++ point_of Event.Pinned ∷ []) p kind)
        → IsSound (begin_pass who number note seen None (append_point who number note Event.Pinned d)) → HasBytes calls (begin_pass who number note seen None (append_point who number note Event.Pinned d))
    pinned_kept kind seen e pins now =
        begun_kept calls (append_point who number note Event.Pinned d)
        (quiet_kept Event.Pinned refl (begin_pass who number note seen None (append_point who number note Event.Pinned d)) now refl refl) who number note seen None (inr called)
        (subst (HasPins d.shape d.objects (d.points ++ point_of Event.Pinned ∷ []) (new_pass who number note seen None)) (sym e) (pins (new_pass who number note seen None)))

    accept_kept : (kind : Kind) → note.kind ≡ kind → IsSound (accept who number note d kind object).0 → HasBytes calls (accept who number note d kind object).0
    accept_kept Kind.Put e now =
        begun_kept calls d has who number note [] None (inr called) (subst (HasPins d.shape d.objects d.points (new_pass who number note [] None)) (sym e) tt)
    accept_kept Kind.Write e now =
        begun_kept calls d has who number note (map (seen_at d object) (pinned_by note.kind d.shape note object.length)) (last_change note.name d.points) (inr called)
        (subst (HasPins d.shape d.objects d.points (new_pass who number note (map (seen_at d object) (pinned_by note.kind d.shape note object.length)) (last_change note.name d.points))) (sym e) write_pins)
    accept_kept Kind.Stat e now = quiet_kept (Event.Answer (reply.Length object.length)) refl (append_point who number note (Event.Answer (reply.Length object.length)) d) now refl refl
    accept_kept Kind.Delete e now = delete_kept e now
    accept_kept Kind.Get e now = pinned_kept Kind.Get (map (seen_at d object) (pinned_by note.kind d.shape note object.length)) e (λ p. tt) now
    accept_kept Kind.ReadAt e now = pinned_kept Kind.ReadAt (map (seen_at d object) (pinned_by note.kind d.shape note object.length)) e (λ p. tt) now
    accept_kept Kind.Rebuild e now = pinned_kept Kind.Rebuild (map (seen_at d object) (pinned_by note.kind d.shape note object.length)) e (λ p. tt) now

    by_refusal : (refused : Option Reply) → refusal d.max note (option_map (λ (o : Object). o.length) found) ≡ refused → IsSound (look_by who number note d found refused).0 → HasBytes calls (look_by who number note d found refused).0
    by_refusal (Some given) e now =
        quiet_kept (Event.Answer given) (subst (λ (o : Option Reply). IfSome o (λ r. is_ok r ≡ false)) e (refused_is_not_ok d.max note.kind note.offset note.length (option_map (λ (o : Object). o.length) found)))
        (append_point who number note (Event.Answer given) d) now refl refl
    by_refusal None e now = accept_kept note.kind refl now

  -- a look keeps the bytes
  pub look_kept : IsSound (look who number note d).0 → HasBytes calls (look who number note d).0
  look_kept now = by_refusal (find_object note.name d.objects) refl (refusal d.max note (option_map (λ (o : Object). o.length) (find_object note.name d.objects))) refl now

-- ---- a repairer's look
-- a repairer's call is a rebuild
rebuild_note : (who : Actor) (note : Note) → IsOfRepairer who note → note.kind ≡ Kind.Rebuild
rebuild_note (actor.Repairer i) note h = h
rebuild_note (actor.Client i) note h = absurd h
rebuild_note actor.Sweeper note h = absurd h
rebuild_note actor.Operator note h = absurd h

pub look_repair_kept : (calls : Calls) (d : Directory) → HasBytes calls d → (who : Actor) (number : ℕ) (note : Note) → IsOfRepairer who note → HasBytes calls (look_repair who number note d).0
look_repair_kept calls d has who number note repairs = by (find_object note.name d.objects)
  where
    kind : note.kind ≡ Kind.Rebuild
    kind = rebuild_note who note repairs

    by : (found : Option Object) → HasBytes calls (look_repair_by who number note d found).0
    by None = has
    by (Some object) =
        cond_both {A = Directory × Told} (nat_lt note.offset (length object.versions))
        (begin_pass who number note (seen_at d object note.offset ∷ []) None d, Told.PinnedStripe (seen_at d object note.offset)) (d, Told.NoSuch) (λ r. HasBytes calls r.0)
        (λ _. begun_kept calls d has who number note (seen_at d object note.offset ∷ []) None (inl kind)
        (subst (HasPins d.shape d.objects d.points (new_pass who number note (seen_at d object note.offset ∷ []) None)) (sym kind) tt))
        (λ _. has)
