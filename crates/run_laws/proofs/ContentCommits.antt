-- What a commit puts in the place of its object stands for the bytes that the plain map puts there.
use Rattle.std.proofs.Common.{◌≡◌, ◌⊎◌, ℕ, ◌+◌, ◌-◌, ◌/◌, ◌<◌, ◌≤◌, max, nat_eq, true, List, [], ◌∷◌, ◌++◌, length, get_or, map, filter, find, slice_get, Option, None, Some, option_map, unwrap_or, IfSome, All, bytes_eq, refl, sym, ap, subst, ◌∙◌, inl, inr, arith}
use Rattle.std.proofs.lemmas.Bool.{false≢true}
use Rattle.std.proofs.lemmas.Option.{same_Some, none-some}
use Rattle.std.proofs.lemmas.List.{nil_from_length}
use Rattle.std.proofs.lemmas.List.FromFn.{length-map-range_with_len, get_or-map-range_with_len}
use Rattle.std.proofs.lemmas.List.Elements.{All-contains}
use Rattle.std.specs.List.{range_with_len}
use Rattle.clay_grid.specs.Shape.{Shape, stripe_length}
use Rattle.clay_model.specs.Code.{stripes_below, stripes_of}
use Rattle.store_map.specs.Content.{content_bytes, overwrite}
use Rattle.store_map.specs.Limits.{stripes_met}
use Rattle.store_map.specs.PlainMap.{Objects, bytes_of, put, write_at, apply}
use Rattle.store_map.specs.declared.call.Call.{Call}
use Rattle.store_map.specs.declared.call.Call.TheVariants as call
use Rattle.store_map.specs.declared.content.Content.{Content}
use Rattle.store_map.specs.declared.placement.Placement.{Placement}
use Rattle.store_map.specs.declared.reply.Reply.{Reply}
use Rattle.store_map.specs.declared.reply.Reply.TheVariants as reply
use Rattle.store_map.proofs.LimitLaws.{stripes_met-start}
use Rattle.store_core.specs.Note.{Note, Kind, note_of}
use Rattle.store_core.specs.Directory.{Object, Pin, Pass, Event, Point, Directory}
use Rattle.store_core.specs.Lookups.{find_object, last_change, is_ok}
use Rattle.store_core.specs.PassSteps.{touched}
use Rattle.store_core.specs.Look.{stripes_between, keeps_old, pinned_by}
use Rattle.store_core.specs.Commit.{put_object, changed_object, commit_object}
use Rattle.store_core.specs.Content.{written_by, lay_over, old_content, contents_by}
use Rattle.store_core.specs.Conditions.{IsPrepared}
use Rattle.store_core.specs.Replay.{FitsEvent}
use Rattle.store_core.specs.Lengths.{length_in}
use Rattle.store_core.specs.SoundPasses.{IsRight}
use Rattle.store_core.specs.Sound.{HasItsVersions, IsSound}
use Rattle.run_laws.proofs.SoundLists.{at_all, found_at}
use Rattle.run_laws.proofs.SoundHistory.{same_name}
use Rattle.run_laws.proofs.SoundClose.{IsHeld}
use Rattle.run_laws.proofs.SoundObjects.{PutAt, put_at, length_found}
use Rattle.run_laws.proofs.SoundStripes.{pins_within}
use Rattle.store_core.specs.Calls.{Calls}
use Rattle.run_laws.specs.MapAfter.{map_by}
use Rattle.run_laws.specs.Contents.{stripes_in, stored_in, pins_of, HasPins, KeepsBytes, HasBytes}
use Rattle.run_laws.specs.LengthLaws.{unread}
use Rattle.run_laws.proofs.Bytes.{made_stripes}
use Rattle.run_laws.proofs.Laid.{zero_div, laid_alone, written_stripes}
use Rattle.run_laws.proofs.LengthProofs.{content_count, length_of_found, length-overwrite}
use Rattle.run_laws.proofs.Maps.{entry_of, put_entry, at, stored_put, stored_found, cut_put, cut_found}
use Rattle.run_laws.proofs.Replayed.{map_more, map_called, replayed, mapped, put_made, write_made, change_is_no_reap}

-- ---- kinds
-- a kind as a number, to tell kinds apart
kind_number : Kind → ℕ
kind_number Kind.Put = 0
kind_number Kind.Write = 1
kind_number Kind.Get = 2
kind_number Kind.ReadAt = 3
kind_number Kind.Stat = 4
kind_number Kind.Delete = 5
kind_number Kind.Rebuild = 6

-- a rebuild writes nothing
pub no_rebuild : (kind : Kind) → kind ≡ Kind.Rebuild → (kind ≡ Kind.Put) ⊎ (kind ≡ Kind.Write) → ⊥
unfolding kind_number
no_rebuild kind e (inl f) = let bad : 6 ≡ 0 = ap kind_number (sym e ∙ f) in omega (arith, bad)
no_rebuild kind e (inr f) = let bad : 6 ≡ 1 = ap kind_number (sym e ∙ f) in omega (arith, bad)

-- a put's call
pub record IsPut (c : Call) : Type 0 where
  pub name : List ℕ
  pub content : Content
  pub is : c ≡ call.Put name content

pub put_call : (c : Call) → (note_of c).kind ≡ Kind.Put → IsPut c
unfolding kind_number
put_call (call.Put name content) e = record { name = name; content = content; is = refl }
put_call (call.Write name offset content) e = absurd (let bad : 1 ≡ 0 = ap kind_number e in omega (arith, bad))
put_call (call.Get name) e = absurd (let bad : 2 ≡ 0 = ap kind_number e in omega (arith, bad))
put_call (call.ReadAt name offset count) e = absurd (let bad : 3 ≡ 0 = ap kind_number e in omega (arith, bad))
put_call (call.Stat name) e = absurd (let bad : 4 ≡ 0 = ap kind_number e in omega (arith, bad))
put_call (call.Delete name) e = absurd (let bad : 5 ≡ 0 = ap kind_number e in omega (arith, bad))

-- a write's call
pub record IsWrite (c : Call) : Type 0 where
  pub name : List ℕ
  pub offset : ℕ
  pub content : Content
  pub is : c ≡ call.Write name offset content

pub write_call : (c : Call) → (note_of c).kind ≡ Kind.Write → IsWrite c
unfolding kind_number
write_call (call.Write name offset content) e = record { name = name; offset = offset; content = content; is = refl }
write_call (call.Put name content) e = absurd (let bad : 0 ≡ 1 = ap kind_number e in omega (arith, bad))
write_call (call.Get name) e = absurd (let bad : 2 ≡ 1 = ap kind_number e in omega (arith, bad))
write_call (call.ReadAt name offset count) e = absurd (let bad : 3 ≡ 1 = ap kind_number e in omega (arith, bad))
write_call (call.Stat name) e = absurd (let bad : 4 ≡ 1 = ap kind_number e in omega (arith, bad))
write_call (call.Delete name) e = absurd (let bad : 5 ≡ 1 = ap kind_number e in omega (arith, bad))

-- a delete's call
pub record IsDelete (c : Call) : Type 0 where
  pub name : List ℕ
  pub is : c ≡ call.Delete name

pub delete_call : (c : Call) → (note_of c).kind ≡ Kind.Delete → IsDelete c
unfolding kind_number
delete_call (call.Delete name) e = record { name = name; is = refl }
delete_call (call.Put name content) e = absurd (let bad : 0 ≡ 5 = ap kind_number e in omega (arith, bad))
delete_call (call.Write name offset content) e = absurd (let bad : 1 ≡ 5 = ap kind_number e in omega (arith, bad))
delete_call (call.Get name) e = absurd (let bad : 2 ≡ 5 = ap kind_number e in omega (arith, bad))
delete_call (call.ReadAt name offset count) e = absurd (let bad : 3 ≡ 5 = ap kind_number e in omega (arith, bad))
delete_call (call.Stat name) e = absurd (let bad : 4 ≡ 5 = ap kind_number e in omega (arith, bad))

module _ (calls : Calls) (d : Directory) (sound : IsSound d) (has : HasBytes calls d) (some : 0 < stripe_length d.shape) (pass : Pass) (held : IsHeld d pass) (placed : List (List Placement)) (ready : IsPrepared d pass placed)
    (c : Call) (is_call : calls pass.actor pass.number ≡ Some c) (noted : note_of c ≡ pass.note) where
  abbrev g : Shape
  g = d.shape

  abbrev s : ℕ
  s = stripe_length d.shape

  abbrev contents : List (List ℕ)
  contents = contents_by d.shape calls d.versions

  -- the map before the commit
  abbrev before : Objects
  before = map_by calls d.max d.points

  -- the commit's point
  abbrev point : Point
  point = record { actor = pass.actor; number = pass.number; note = pass.note; event = Event.Done }

  -- an object that isn't there yet
  abbrev nothing : Object
  nothing = record { name = pass.note.name; length = 0; versions = [] }

  -- what is kept of the pass
  kept : KeepsBytes calls d.shape d.objects contents d.points pass
  kept = All-contains (KeepsBytes calls d.shape d.objects contents d.points) d.passes pass has.passes held.has

  -- the content of a stripe's new version, by what is pinned and the call
  abbrev new_content : List Pin → Option Call → ℕ → List ℕ
  new_content pins found stripe =
      lay_over d.shape stripe (old_content d.shape contents (option_map (λ (pin : Pin). pin.version) (find (λ (pin : Pin). nat_eq stripe pin.stripe) pins))) (written_by found).0 (written_by found).1

  -- the versions that were drawn stand for them
  drawn_are : map (at contents) pass.drawn ≡ map (new_content pass.pinned (calls pass.actor pass.number)) (stripes_between d.shape pass.note.offset (pass.note.offset + pass.note.length))
  drawn_are = by kept.drawn
    where
      by : (pass.drawn ≡ []) ⊎ (map (at contents) pass.drawn ≡ map (new_content pass.pinned (calls pass.actor pass.number)) (stripes_between d.shape pass.note.offset (pass.note.offset + pass.note.length)))
          → map (at contents) pass.drawn ≡ map (new_content pass.pinned (calls pass.actor pass.number)) (stripes_between d.shape pass.note.offset (pass.note.offset + pass.note.length))
      by (inr e) = e
      by (inl e) =
          let none : touched d pass.note ≡ [] = nil_from_length (touched d pass.note) (sym ready.drawn ∙ ap length e) in
          ap (map (at contents)) e ∙ sym (ap (map (new_content pass.pinned (calls pass.actor pass.number))) none)

  -- the object that is changed has the call's name
  old_name : (found : Option Object) → find_object pass.note.name d.objects ≡ found → (unwrap_or found nothing).name ≡ pass.note.name
  old_name None e = refl
  old_name (Some object) e = sym (same_name pass.note.name object.name (found_at (λ (o : Object). bytes_eq pass.note.name o.name) d.objects object e).2)

  module _ (found : Option Object) (is_found : find_object pass.note.name d.objects ≡ found) (now : IsSound (commit_object placed pass (unwrap_or found nothing) d).0) where
    abbrev old : Object
    old = unwrap_or found nothing

    -- the map replies ok
    made : unread (apply d.max c before).1 ≡ reply.Done
    made = done pass.note.kind (mapped calls d (commit_object placed pass old d).0 point sound now refl refl has.points c noted)
      where
        done : (kind : Kind) → FitsEvent Event.Done kind (unread (apply d.max c before).1) → unread (apply d.max c before).1 ≡ reply.Done
        done Kind.Put h = h
        done Kind.Write h = h
        done kind h = absurd h

    -- the map after
    after_is : map_by calls d.max (d.points ++ point ∷ []) ≡ (apply d.max c before).0
    after_is = map_more calls d.max d.points point ∙ map_called calls d.max before point c is_call (change_is_no_reap Event.Done refl)

    -- the object that is put has its versions
    its_versions : (new : Object) → changed_object pass.note.kind d pass old ≡ new → length new.versions ≡ stripes_met (stripe_length d.shape) 0 new.length
    its_versions new e =
        let there : PutAt d.objects (put_object (changed_object pass.note.kind d pass old) d.objects) (find_object (changed_object pass.note.kind d pass old).name d.objects) (changed_object pass.note.kind d pass old) =
        put_at (changed_object pass.note.kind d pass old) d.objects in
        let its : HasItsVersions (commit_object placed pass old d).0 (changed_object pass.note.kind d pass old) =
        at_all (HasItsVersions (commit_object placed pass old d).0) (put_object (changed_object pass.note.kind d pass old) d.objects) there.place (changed_object pass.note.kind d pass old) now.objects there.here in
        subst (λ (o : Object). length o.versions ≡ stripes_met (stripe_length d.shape) 0 o.length) e its.count

    -- where the new object stands for the bytes that the map puts, all objects do
    put_there : (new : Object) → changed_object pass.note.kind d pass old ≡ new → new.name ≡ pass.note.name → (bytes : List ℕ) → (apply d.max c before).0 ≡ put pass.note.name bytes before
        → map (at contents) new.versions ≡ stripes_of d.shape bytes
        → stored_in contents (put_object (changed_object pass.note.kind d pass old) d.objects) ≡ stripes_in d.shape (map_by calls d.max (d.points ++ point ∷ []))
    put_there new e named bytes result stripes =
        ap (λ o. stored_in contents (put_object o d.objects)) e
        ∙ stored_put contents new d.objects
        ∙ (λ i. put_entry (named i) (stripes i) (has.contents i))
        ∙ sym (cut_put d.shape pass.note.name bytes before)
        ∙ sym (ap (stripes_in d.shape) (after_is ∙ result))

    -- ---- a put
    module _ (kind : pass.note.kind ≡ Kind.Put) (p : IsPut c) where
      abbrev all_news : List ℕ
      all_news = content_bytes p.content

      put_note : note_of (call.Put p.name p.content) ≡ pass.note
      put_note = sym (ap note_of p.is) ∙ noted

      put_long : pass.note.length ≡ length all_news
      put_long = sym (ap (λ (n : Note). n.length) put_note) ∙ sym (content_count p.content)

      abbrev many : ℕ
      many = (length all_news + stripe_length d.shape - 1) / stripe_length d.shape

      many_is : stripes_met (stripe_length d.shape) 0 (length all_news) ≡ many
      many_is = stripes_met-start (stripe_length d.shape) (length all_news) some

      all_touched : stripes_between d.shape pass.note.offset (pass.note.offset + pass.note.length) ≡ range_with_len 0 many
      all_touched =
          let first : pass.note.offset ≡ 0 = sym (ap (λ (n : Note). n.offset) put_note) in
          let none : pass.note.offset / stripe_length d.shape ≡ 0 = ap (λ n. n / stripe_length d.shape) first ∙ zero_div (stripe_length d.shape) some in
          let counted : pass.note.offset + pass.note.length - pass.note.offset ≡ length all_news = counts pass.note.offset pass.note.length (length all_news) put_long in
          (λ i. range_with_len (none i) (stripes_met (stripe_length d.shape) (first i) (counted i))) ∙ ap (range_with_len 0) many_is
        where
          counts : (o n m : ℕ) → n ≡ m → o + n - o ≡ m
          counts o n m e = omega (arith, e)

      no_pins : pass.pinned ≡ []
      no_pins = (subst (IsRight d pass) kind (All-contains (λ (p : Pass). IsRight d p p.note.kind) d.passes pass sound.calls held.has)).2

      put_stripes : map (at contents) pass.drawn ≡ stripes_of d.shape all_news
      put_stripes =
          drawn_are
          ∙ (λ i. map (new_content (no_pins i) ((is_call ∙ ap Some p.is) i)) (all_touched i))
          ∙ made_stripes (stripe_length d.shape) many (new_content [] (Some (call.Put p.name p.content))) all_news
          (λ i less. laid_alone d.shape some all_news 0 i refl (subst (λ n. i < n) (sym many_is) less))
          (map (new_content [] (Some (call.Put p.name p.content))) (range_with_len 0 many))
          (length-map-range_with_len (new_content [] (Some (call.Put p.name p.content))) 0 many)
          (λ i less. get_or-map-range_with_len (new_content [] (Some (call.Put p.name p.content))) 0 many i i [] less (omega arith))

      put_kept : stored_in contents (put_object (changed_object pass.note.kind d pass old) d.objects) ≡ stripes_in d.shape (map_by calls d.max (d.points ++ point ∷ []))
      put_kept =
          put_there (record { name = old.name; length = pass.note.length; versions = pass.drawn }) (ap (λ k. changed_object k d pass old) kind) (old_name found is_found) all_news
          (ap (λ x. (apply d.max x before).0) p.is
          ∙ put_made d.max before p.name p.content (ap (λ x. unread (apply d.max x before).1) (sym p.is) ∙ made)
          ∙ ap (λ n. put n all_news before) (ap (λ (n : Note). n.name) put_note))
          put_stripes

  -- ---- a write
  module _ (kind : pass.note.kind ≡ Kind.Write) (same_base : pass.base ≡ last_change pass.note.name d.points) (w : IsWrite c) where
    abbrev news : List ℕ
    news = content_bytes w.content

    note_is : note_of (call.Write w.name w.offset w.content) ≡ pass.note
    note_is = sym (ap note_of w.is) ∙ noted

    long : pass.note.length ≡ length news
    long = sym (ap (λ (n : Note). n.length) note_is) ∙ sym (content_count w.content)

    name_is : w.name ≡ pass.note.name
    name_is = ap (λ (n : Note). n.name) note_is

    offset_is : w.offset ≡ pass.note.offset
    offset_is = ap (λ (n : Note). n.offset) note_is

    -- what the map finds under the name
    bytes_found : (found : Option Object) → find_object pass.note.name d.objects ≡ found
        → option_map (λ (object : Object). map (at contents) object.versions) found ≡ option_map (λ (bytes : List ℕ). stripes_of d.shape bytes) (bytes_of pass.note.name before)
    bytes_found found is_found =
        ap (option_map (λ (object : Object). map (at contents) object.versions)) (sym is_found)
        ∙ sym (stored_found contents pass.note.name d.objects) ∙ ap (entry_of pass.note.name) has.contents ∙ cut_found d.shape pass.note.name before

    -- its length
    length_found_there : (found : Option Object) → find_object pass.note.name d.objects ≡ found
        → option_map (λ (object : Object). object.length) found ≡ option_map (λ (bytes : List ℕ). length bytes) (bytes_of pass.note.name before)
    length_found_there found is_found =
        ap (option_map (λ (object : Object). object.length)) (sym is_found)
        ∙ length_found pass.note.name d.objects
        ∙ ap (length_in pass.note.name) (sym (replayed calls d sound has.points))
        ∙ length_of_found pass.note.name before

    -- the map's result, by what it finds
    result_by : (found : Option (List ℕ)) → bytes_of pass.note.name before ≡ found → apply d.max c before ≡ write_at d.max w.name w.offset w.content before found
    result_by found e = ap (λ x. apply d.max x before) w.is ∙ ap (λ n. write_at d.max w.name w.offset w.content before (bytes_of n before)) name_is ∙ ap (write_at d.max w.name w.offset w.content before) e

    module _ (object : Object) (is_found : find_object pass.note.name d.objects ≡ Some object) (now : IsSound (commit_object placed pass object d).0)
        (bytes : List ℕ) (is_bytes : bytes_of pass.note.name before ≡ Some bytes) where
      -- the object's versions stand for the map's bytes
      stored : map (at contents) object.versions ≡ stripes_of d.shape bytes
      stored = same_Some (map (at contents) object.versions) (stripes_of d.shape bytes) (bytes_found (Some object) is_found ∙ ap (option_map (λ (b : List ℕ). stripes_of d.shape b)) is_bytes)

      -- and it is as long
      same_length : object.length ≡ length bytes
      same_length = same_Some object.length (length bytes) (length_found_there (Some object) is_found ∙ ap (option_map (λ (b : List ℕ). length b)) is_bytes)

      -- it has a version for each stripe
      its_count : length object.versions ≡ stripes_met (stripe_length d.shape) 0 (length bytes)
      its_count =
          let place : (i : ℕ) × (slice_get d.objects i ≡ Some object) × (bytes_eq pass.note.name object.name ≡ true) = found_at (λ (o : Object). bytes_eq pass.note.name o.name) d.objects object is_found in
          let its : HasItsVersions d object = at_all (HasItsVersions d) d.objects place.0 object sound.objects place.1 in
          its.count ∙ ap (stripes_met (stripe_length d.shape) 0) same_length

      stored_below : map (at contents) object.versions ≡ stripes_below (stripe_length d.shape) (length object.versions) bytes
      stored_below =
          stored ∙ ap (λ n. stripes_below (stripe_length d.shape) n bytes) (sym (its_count ∙ stripes_met-start (stripe_length d.shape) (length bytes) some))

      -- the write that the map makes
      map_made : (w.offset ≤ length bytes) × ((write_at d.max w.name w.offset w.content before (Some bytes)).0 ≡ put w.name (overwrite bytes w.offset news) before)
      map_made = write_made d.max before w.name w.offset w.content bytes (ap (λ (r : Objects × Reply). unread r.1) (sym (result_by (Some bytes) is_bytes)) ∙ made (Some object) is_found now)

      fits : pass.note.offset ≤ length bytes
      fits = subst (λ n. n ≤ length bytes) offset_is map_made.0

      -- the stripes that are touched
      counted : pass.note.offset + pass.note.length - pass.note.offset ≡ length news
      counted = counts pass.note.offset pass.note.length (length news) long
        where
          counts : (o n m : ℕ) → n ≡ m → o + n - o ≡ m
          counts o n m e = omega (arith, e)

      touched_is : stripes_between d.shape pass.note.offset (pass.note.offset + pass.note.length)
          ≡ range_with_len (pass.note.offset / stripe_length d.shape) (stripes_met (stripe_length d.shape) pass.note.offset (length news))
      touched_is = ap (λ n. range_with_len (pass.note.offset / stripe_length d.shape) (stripes_met (stripe_length d.shape) pass.note.offset n)) counted

      abbrev mk : ℕ → Pin
      mk stripe = record { stripe = stripe; version = get_or object.versions stripe 0 }

      abbrev kept_stripes : List ℕ
      kept_stripes =
          filter (keeps_old d.shape (length bytes) pass.note.offset (pass.note.offset + length news))
          (range_with_len (pass.note.offset / stripe_length d.shape) (stripes_met (stripe_length d.shape) pass.note.offset (length news)))

      -- the pins are the object's as it is
      pins_are : pass.pinned ≡ map mk kept_stripes
      pins_are =
          looked
          ∙ ap (λ k. map mk (pinned_by k d.shape pass.note object.length)) kind
          ∙ (λ i. map mk (filter (keeps_old d.shape (same_length i) pass.note.offset (pass.note.offset + long i)) (touched_is i)))
        where
          looked : pass.pinned ≡ pins_of d.shape pass.note object
          looked =
              subst (λ (o : Option Object). IfSome o (λ x. pass.pinned ≡ pins_of d.shape pass.note x)) is_found
              (let pins : HasPins d.shape d.objects d.points pass Kind.Write = subst (HasPins d.shape d.objects d.points pass) kind kept.pins in pins same_base)

      -- each pinned stripe is one of the object's
      kept_within : All (λ i. i < stripes_met (stripe_length d.shape) 0 (length bytes)) kept_stripes
      kept_within =
          subst (λ n. All (λ i. i < stripes_met (stripe_length d.shape) 0 (length bytes))
          (filter (keeps_old d.shape (length bytes) pass.note.offset (pass.note.offset + length news)) (range_with_len (pass.note.offset / stripe_length d.shape) (stripes_met (stripe_length d.shape) pass.note.offset n))))
          (counts pass.note.offset (length news))
          (pins_within d.shape some Kind.Write (record (pass.note) { length = length news }) (length bytes))
        where
          counts : (o n : ℕ) → o + n - o ≡ n
          counts o n = omega arith

      laid : map (at contents) pass.drawn
          ≡ map (λ i. lay_over d.shape i (old_content d.shape contents (option_map (λ (pin : Pin). pin.version) (find (λ (pin : Pin). nat_eq i pin.stripe) pass.pinned))) pass.note.offset news)
          (range_with_len (pass.note.offset / stripe_length d.shape) (stripes_met (stripe_length d.shape) pass.note.offset (length news)))
      laid =
          drawn_are
          ∙ (λ j. map (new_content pass.pinned ((is_call ∙ ap Some w.is) j)) (touched_is j))
          ∙ ap (λ o. map (λ i. lay_over d.shape i (old_content d.shape contents (option_map (λ (pin : Pin). pin.version) (find (λ (pin : Pin). nat_eq i pin.stripe) pass.pinned))) o news)
          (range_with_len (pass.note.offset / stripe_length d.shape) (stripes_met (stripe_length d.shape) pass.note.offset (length news)))) offset_is

      -- the versions after the write
      abbrev versions_now : List ℕ
      versions_now = overwrite object.versions (pass.note.offset / stripe_length d.shape) pass.drawn

      abbrev written_object : Object
      written_object = record { name = object.name; length = max object.length (pass.note.offset + pass.note.length); versions = versions_now }

      write_stripes : map (at contents) versions_now ≡ stripes_of d.shape (overwrite bytes pass.note.offset news)
      write_stripes =
          written_stripes d.shape some contents object.versions bytes stored_below its_count pass.note.offset news fits pass.pinned pins_are kept_within pass.drawn laid
          ∙ ap (λ n. stripes_below (stripe_length d.shape) n (overwrite bytes pass.note.offset news))
          (its_versions (Some object) is_found now written_object (ap (λ k. changed_object k d pass object) kind)
          ∙ ap (stripes_met (stripe_length d.shape) 0)
          ((λ i. max (same_length i) (pass.note.offset + long i)) ∙ sym (length-overwrite bytes pass.note.offset news fits))
          ∙ stripes_met-start (stripe_length d.shape) (length (overwrite bytes pass.note.offset news)) some)

      write_kept_there : stored_in contents (put_object (changed_object pass.note.kind d pass object) d.objects) ≡ stripes_in d.shape (map_by calls d.max (d.points ++ point ∷ []))
      write_kept_there =
          put_there (Some object) is_found now written_object (ap (λ k. changed_object k d pass object) kind) (old_name (Some object) is_found) (overwrite bytes pass.note.offset news)
          (ap (λ (r : Objects × Reply). r.0) (result_by (Some bytes) is_bytes) ∙ map_made.1 ∙ (λ i. put (name_is i) (overwrite bytes (offset_is i) news) before))
          write_stripes

    write_kept : (found : Option Object) → find_object pass.note.name d.objects ≡ found → IsSound (commit_object placed pass (unwrap_or found nothing) d).0
        → stored_in contents (put_object (changed_object pass.note.kind d pass (unwrap_or found nothing)) d.objects) ≡ stripes_in d.shape (map_by calls d.max (d.points ++ point ∷ []))
    write_kept found is_found now = by found is_found now (bytes_of pass.note.name before) refl (bytes_found found is_found)
      where
        Kept : Option Object → Type 0
        Kept found = stored_in contents (put_object (changed_object pass.note.kind d pass (unwrap_or found nothing)) d.objects) ≡ stripes_in d.shape (map_by calls d.max (d.points ++ point ∷ []))

        by : (found : Option Object) → find_object pass.note.name d.objects ≡ found → IsSound (commit_object placed pass (unwrap_or found nothing) d).0
            → (bytes : Option (List ℕ)) → bytes_of pass.note.name before ≡ bytes
            → option_map (λ (object : Object). map (at contents) object.versions) found ≡ option_map (λ (b : List ℕ). stripes_of d.shape b) (bytes_of pass.note.name before)
            → stored_in contents (put_object (changed_object pass.note.kind d pass (unwrap_or found nothing)) d.objects) ≡ stripes_in d.shape (map_by calls d.max (d.points ++ point ∷ []))
        by (Some object) at_object now (Some bytes) at_bytes same = write_kept_there object at_object now bytes at_bytes
        by (Some object) at_object now None at_bytes same =
            absurd (none-some (map (at contents) object.versions) (sym (same ∙ ap (option_map (λ (b : List ℕ). stripes_of d.shape b)) at_bytes)))
        by None at_object now found_bytes at_bytes same = absurd (missing found_bytes at_bytes (same ∙ ap (option_map (λ (b : List ℕ). stripes_of d.shape b)) at_bytes))
          where
            missing : (found_bytes : Option (List ℕ)) → bytes_of pass.note.name before ≡ found_bytes → None ≡ option_map (λ (b : List ℕ). stripes_of d.shape b) found_bytes → ⊥
            missing (Some bytes) at_bytes same = none-some (stripes_of d.shape bytes) same
            missing None at_bytes same =
                let told : reply.NoSuch ≡ reply.Done = ap (λ (r : Objects × Reply). unread r.1) (sym (result_by None at_bytes)) ∙ made None at_object now in
                false≢true (ap is_ok told)

  -- so does each commit that is made
  pub commit_kept : (found : Option Object) → find_object pass.note.name d.objects ≡ found → IsSound (commit_object placed pass (unwrap_or found nothing) d).0
      → (pass.note.kind ≡ Kind.Put) ⊎ ((pass.note.kind ≡ Kind.Write) × (pass.base ≡ last_change pass.note.name d.points))
      → stored_in contents (put_object (changed_object pass.note.kind d pass (unwrap_or found nothing)) d.objects) ≡ stripes_in d.shape (map_by calls d.max (d.points ++ point ∷ []))
  commit_kept found is_found now (inl kind) = put_kept found is_found now kind (put_call c (ap (λ (n : Note). n.kind) noted ∙ kind))
  commit_kept found is_found now (inr h) = write_kept h.0 h.1 (write_call c (ap (λ (n : Note). n.kind) noted ∙ h.0)) found is_found now
