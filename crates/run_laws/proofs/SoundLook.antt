-- The two looks keep a directory sound.
use Rattle.std.proofs.Common.{◌≡◌, ◌≢◌, ◌⊎◌, ℕ, suc, ◌+◌, ◌<◌, ◌≤◌, true, false, nat_lt, List, [], ◌∷◌, length, get_or, map, take, bytes_eq, slice_get, Option, None, Some, option_map, unwrap_or, IfSome, All, Contains, IsTrue, IsFalse, refl, sym, ap, subst, ◌∙◌, inl, inr, arith, zero-add}
use Rattle.std.proofs.lemmas.Bool.{true≢false, cond_both, ltb-true}
use Rattle.std.proofs.lemmas.Option.{none-some, slice_get-get_or}
use Rattle.std.proofs.lemmas.List.Kept.{AllPairs-cons}
use Rattle.std.proofs.lemmas.List.Elements.{All-nil, All-cons, All-weaker, All-map, All-push, All-contains}
use Rattle.clay_grid.specs.Shape.{stripe_length}
use Rattle.store_map.specs.declared.actor.Actor.{Actor}
use Rattle.store_map.specs.declared.actor.Actor.TheVariants as actor
use Rattle.store_map.specs.declared.reply.Reply.{Reply}
use Rattle.store_map.specs.declared.reply.Reply.TheVariants as reply
use Rattle.store_core.specs.Placements.{IsRow}
use Rattle.store_core.specs.Lists.{is_among}
use Rattle.store_core.specs.Told.{Told, Seen}
use Rattle.store_core.specs.Note.{Note, Kind, refusal_by, refusal}
use Rattle.store_core.specs.Directory.{Object, Standing, Version, Pin, Pass, Event, Point, Directory}
use Rattle.store_core.specs.Lookups.{same_actor, find_object, pass_of, last_change, is_ok}
use Rattle.store_core.specs.Look.{pinned_by, seen_at, pin_of, append_point, begin_pass, without_object}
use Rattle.store_core.specs.Looks.{accept, look_by, look, look_repair_by, look_repair}
use Rattle.store_core.specs.Lengths.{length_in, delete_length, reply_by, found_length, apply_length}
use Rattle.store_core.specs.Replay.{FitsEvent, lengths_after}
use Rattle.store_core.specs.SoundPasses.{Stands, PinsCurrent, HasBase, IsRight, HasVersions, IsOfItsCall}
use Rattle.store_core.specs.Sound.{HasItsVersions, AreInOrder, IsPlaced, IsSound, lengths_of}
use Rattle.store_core.specs.Conditions.{MayBegin, IsOfClient, IsOfRepairer}
use Rattle.run_laws.proofs.SoundLists.{all_by, at_all, found_at, found_in, none_found}
use Rattle.run_laws.proofs.SoundHistory.{same_name, reply_unless, lengths_unless, replied, applied, same_reply, put_anywhere, refused_is_not_ok, HasNoBytes, refused_has_no_bytes, fits_answer, answer_stays, Last, last_of}
use Rattle.run_laws.proofs.SoundVersions.{StandsThere, stands_there}
use Rattle.run_laws.proofs.SoundParts.{LiveThere, RightThere, PinsPlaced, other_passes}
use Rattle.run_laws.proofs.SoundAdds.{point_added}
use Rattle.run_laws.proofs.SoundObjects.{length_found, lengths_removed}
use Rattle.run_laws.proofs.SoundDelete.{deleted_sound}
use Rattle.run_laws.proofs.SoundStripes.{pins_within}

-- ---- a pass begins
-- the pass that begins
abbrev pub new_pass : Actor → ℕ → Note → List Seen → Option ℕ → Pass
new_pass who number note seen base = record { actor = who; number = number; note = note; pinned = map pin_of seen; drawn = []; base = base; reaped = None }

module _ (d : Directory) (sound : IsSound d) (who : Actor) (number : ℕ) (note : Note) (seen : List Seen) (base : Option ℕ) where
  -- that of this look
  abbrev begun : Pass
  begun = new_pass who number note seen base

  -- the pins of the new pass, by what its look saw
  pins_all : (P : ℕ → Type 0) → ((n : ℕ) → Stands d Standing.Current n → P n) → All (λ (s : Seen). Stands d Standing.Current s.version) seen → All (λ (pin : Pin). P pin.version) (map pin_of seen)
  pins_all P step all =
      All-map (λ (pin : Pin). P pin.version) pin_of seen (All-weaker (λ (s : Seen). Stands d Standing.Current s.version) (λ (s : Seen). P s.version) (λ s. step s.version) seen all)

  -- a current version has all its epochs
  current_placed : (n : ℕ) → Stands d Standing.Current n → IfSome (slice_get d.versions n) (λ version. IsRow d.shape version.placed)
  current_placed n h =
      let there : StandsThere d.versions Standing.Current n = stands_there d.versions Standing.Current n h in
      subst (λ (o : Option Version). IfSome o (λ version. IsRow d.shape version.placed)) (sym there.found)
      ((at_all (IsPlaced d) d.versions n there.version sound.placed there.found).current there.stands)

  -- the directory stays sound where the look saw current versions
  pub begun_sound : pass_of who d ≡ None → All (λ (s : Seen). Stands d Standing.Current s.version) seen → All (IsOfItsCall begun) d.points → IsRight d begun note.kind → (note.kind ≡ Kind.Write → PinsCurrent d begun)
      → IsSound (begin_pass who number note seen base d)
  begun_sound none current newest right pinned =
      other_passes d (begun ∷ d.passes) sound
      (record {
        differ = AllPairs-cons (λ (p q : Pass). IsFalse (same_actor p.actor q.actor)) begun d.passes
            (all_by (λ (q : Pass). IsFalse (same_actor who q.actor)) d.passes (λ q has. none_found (λ (p : Pass). same_actor who p.actor) d.passes q none has)) sound.passes;
        live = All-cons (LiveThere d) begun d.passes
            (λ _. record {
              pins = pins_all (λ n. Stands d Standing.Current n ⊎ Stands d Standing.Superseded n) (λ n h. inl h) current;
              drawn = All-nil (Stands d Standing.Drawn);
              differ = λ i j n less within. absurd (omega (arith, within));
              all_drawn = inl refl;
              current = pinned;
            })
            sound.live;
        calls = All-cons (RightThere d) begun d.passes right sound.calls;
        newest = All-cons (λ (pass : Pass). All (IsOfItsCall pass) d.points) begun d.passes newest sound.newest;
        apart = AllPairs-cons (λ (p q : Pass). All (λ version. IsFalse (is_among version q.drawn)) p.drawn) begun d.passes
            (all_by (λ (q : Pass). All (λ version. IsFalse (is_among version q.drawn)) []) d.passes (λ q has. All-nil (λ version. IsFalse (is_among version q.drawn)))) sound.apart;
        placed = All-cons (PinsPlaced d) begun d.passes (pins_all (λ n. IfSome (slice_get d.versions n) (λ version. IsRow d.shape version.placed)) current_placed current) sound.pinned_placed;
        versions = All-cons (HasVersions d) begun d.passes (record { pinned = pins_all (λ n. n < length d.versions) (λ n h. h.1) current; drawn = All-nil (λ n. n < length d.versions) }) sound.versions;
      })

-- ---- the points of an actor that may begin
module _ (d : Directory) (who : Actor) (number : ℕ) (may : MayBegin d who number) where
  -- what is known of an earlier point
  may_at : (earlier : Point) → Contains d.points earlier → IsTrue (same_actor earlier.actor who) → (earlier.number ≤ number) × (earlier.number ≡ number → earlier.event ≡ Event.Reaped)
  may_at earlier has = All-contains (λ (point : Point). IsTrue (same_actor point.actor who) → (point.number ≤ number) × (point.number ≡ number → point.event ≡ Event.Reaped)) d.points earlier may.numbers has

  -- the new point comes after its actor's points
  in_order : (note : Note) (event : Event) (earlier : Point) → Contains d.points earlier → AreInOrder earlier (record { actor = who; number = number; note = note; event = event })
  in_order note event earlier has = record { numbers = λ same. (may_at earlier has same).0; once = λ same e other. absurd (other ((may_at earlier has same).1 e)) }

  -- it is of no call that has a pass
  of_others : (note : Note) (event : Event) (pass : Pass) → Contains d.passes pass → IsOfItsCall pass (record { actor = who; number = number; note = note; event = event })
  of_others note event pass has =
      let apart : same_actor who pass.actor ≡ false = none_found (λ (p : Pass). same_actor who p.actor) d.passes pass may.no_pass has in
      record { not_later = λ same. absurd (true≢false (sym same ∙ apart)); own = λ same _. absurd (true≢false (sym same ∙ apart)) }

  -- the earlier points are of no later call than the new pass's
  earlier_points : (note : Note) (seen : List Seen) (base : Option ℕ) → All (IsOfItsCall (new_pass who number note seen base)) d.points
  earlier_points note seen base =
      all_by (IsOfItsCall (new_pass who number note seen base)) d.points
      (λ point has. record { not_later = λ same. (may_at point has same).0; own = λ same e. inl ((may_at point has same).1 e) })

-- ---- a call that is answered at once, and changes nothing
module _ (d : Directory) (sound : IsSound d) (who : Actor) (number : ℕ) (note : Note) (may : MayBegin d who number) where
  -- an answer that is no change and has no bytes keeps the directory sound
  answered : (given : Reply) → (apply_length d.max note (lengths_of d)).1 ≡ given → is_ok given ≡ false → HasNoBytes given → IsSound (append_point who number note (Event.Answer given) d)
  answered given told bad none =
      point_added d (record { actor = who; number = number; note = note; event = Event.Answer given }) sound bad (fits_answer given note.kind (apply_length d.max note (lengths_of d)).1 none told)
      (answer_stays d.max note (lengths_of d) given told bad) (in_order d who number may note (Event.Answer given)) (of_others d who number may note (Event.Answer given))

  -- the object's length, if there is one
  abbrev length_now : Option ℕ
  length_now = length_in note.name (lengths_of d)

  -- the reply where the refusal is known
  told : (refused : Option Reply) → refusal d.max note length_now ≡ refused → (apply_length d.max note (lengths_of d)).1 ≡ reply_unless note.kind (found_length length_now) refused
  told refused e = replied d.max note (lengths_of d) ∙ ap (reply_unless note.kind (found_length length_now)) e

  -- and the lengths that the call leaves
  changed : (refused : Option Reply) → refusal d.max note length_now ≡ refused → (apply_length d.max note (lengths_of d)).0 ≡ lengths_unless note.kind note (lengths_of d) refused
  changed refused e = applied d.max note (lengths_of d) ∙ ap (lengths_unless note.kind note (lengths_of d)) e

  -- a refusal keeps it sound
  refused_sound : (given : Reply) → refusal d.max note length_now ≡ Some given → IsSound (append_point who number note (Event.Answer given) d)
  refused_sound given e =
      answered given (told (Some given) e)
      (subst (λ (o : Option Reply). IfSome o (λ r. is_ok r ≡ false)) e (refused_is_not_ok d.max note.kind note.offset note.length length_now))
      (subst (λ (o : Option Reply). IfSome o HasNoBytes) e (refused_has_no_bytes d.max note.kind note.offset note.length length_now))

  -- ---- an object that is there
  module _ (object : Object) (found : find_object note.name d.objects ≡ Some object) (accepted : refusal d.max note length_now ≡ None) where
    -- the stripes that are pinned
    abbrev pins : Kind → List ℕ
    pins kind = pinned_by kind d.shape note object.length

    -- and their versions
    abbrev seen : Kind → List Seen
    seen kind = map (seen_at d object) (pins kind)

    -- where the object stands
    place : (i : ℕ) × (slice_get d.objects i ≡ Some object) × (bytes_eq note.name object.name ≡ true)
    place = found_at (λ (o : Object). bytes_eq note.name o.name) d.objects object found

    -- it has its versions
    its : HasItsVersions d object
    its = at_all (HasItsVersions d) d.objects place.0 object sound.objects place.1

    -- its length is the one by which the map replies
    length_is : length_now ≡ Some object.length
    length_is = sym (length_found note.name d.objects) ∙ ap (option_map (λ (o : Object). o.length)) found

    -- each pinned stripe is one of the object
    stripe_there : (kind : Kind) → 0 < stripe_length d.shape → All (λ i. i < length object.versions) (pins kind)
    stripe_there kind some = subst (λ n. All (λ i. i < n) (pins kind)) (sym its.count) (pins_within d.shape some kind note object.length)

    -- so its version is current
    seen_current : (kind : Kind) → 0 < stripe_length d.shape → All (λ (s : Seen). Stands d Standing.Current s.version) (seen kind)
    seen_current kind some =
        All-map (λ (s : Seen). Stands d Standing.Current s.version) (seen_at d object) (pins kind)
        (All-weaker (λ i. i < length object.versions) (λ i. Stands d Standing.Current (get_or object.versions i 0)) (λ i less. its.current i 0 less) (pins kind) (stripe_there kind some))

    -- ---- a write
    -- the pins are current
    current_pins : 0 < stripe_length d.shape → (base : Option ℕ) → PinsCurrent d (new_pass who number note (seen Kind.Write) base)
    current_pins some base same =
        subst (λ (o : Option Object). All (λ (pin : Pin). IfSome o (λ object. slice_get object.versions pin.stripe ≡ Some pin.version)) (map pin_of (seen Kind.Write))) (sym found)
        (All-map (λ (pin : Pin). slice_get object.versions pin.stripe ≡ Some pin.version) pin_of (seen Kind.Write)
        (All-map (λ (s : Seen). slice_get object.versions s.stripe ≡ Some s.version) (seen_at d object) (pins Kind.Write)
        (All-weaker (λ i. i < length object.versions) (λ i. slice_get object.versions i ≡ Some (get_or object.versions i 0)) (λ i less. slice_get-get_or object.versions i 0 less) (pins Kind.Write) (stripe_there Kind.Write some))))

    -- the last change of the object
    last : Last d.max note.name 0 None [] d.points (lengths_of d)
    last = last_of d.max note.name 0 None [] d.points (lengths_of d) sound.history

    -- the object was changed, and the write is allowed after its last change
    based : note.kind ≡ Kind.Write → HasBase d (new_pass who number note (seen Kind.Write) (last_change note.name d.points))
    based e = by last
      where
        done : (apply_length d.max note (lengths_of d)).1 ≡ reply.Done
        done = told None accepted ∙ ap (λ k. reply_by k (found_length length_now)) e

        by : Last d.max note.name 0 None [] d.points (lengths_of d) → HasBase d (new_pass who number note (seen Kind.Write) (last_change note.name d.points))
        by (inl none) = absurd (none-some object.length (sym none.1 ∙ length_is))
        by (inr h) =
            record {
              base = h.place;
              is_base = h.last ∙ ap Some (zero-add h.place);
              within = h.within;
              allowed =
                  subst (λ n. (apply_length d.max note (lengths_after d.max (take n d.points))).1 ≡ reply.Done) (let more : suc h.place ≡ h.place + 1 = omega arith in more)
                  (same_reply d.max note (lengths_after d.max (take (suc h.place) d.points)) (lengths_of d) h.same ∙ done);
            }

    -- a write's look keeps the directory sound
    write_sound : 0 < stripe_length d.shape → note.kind ≡ Kind.Write → IsSound (begin_pass who number note (seen Kind.Write) (last_change note.name d.points) d)
    write_sound some e =
        begun_sound d sound who number note (seen Kind.Write) (last_change note.name d.points) may.no_pass (seen_current Kind.Write some)
        (earlier_points d who number may note (seen Kind.Write) (last_change note.name d.points))
        (subst (λ k. IsRight d (new_pass who number note (seen Kind.Write) (last_change note.name d.points)) k) (sym e) (based e))
        (λ _. current_pins some (last_change note.name d.points))

    -- ---- a get or a read
    -- the point of a get or a read
    pinned_point : (kind : Kind) → note.kind ≡ kind → reply_by kind (found_length length_now) ≡ reply.Bytes [] → FitsEvent Event.Pinned kind (reply.Bytes []) → lengths_unless kind note (lengths_of d) None ≡ lengths_of d
        → IsSound (append_point who number note Event.Pinned d)
    pinned_point kind e bytes marked stays =
        point_added d (record { actor = who; number = number; note = note; event = Event.Pinned }) sound refl
        (subst (λ r. FitsEvent Event.Pinned note.kind r) (sym (told None accepted ∙ ap (λ k. reply_by k (found_length length_now)) e ∙ bytes)) (subst (λ k. FitsEvent Event.Pinned k (reply.Bytes [])) (sym e) marked))
        (changed None accepted ∙ ap (λ k. lengths_unless k note (lengths_of d) None) e ∙ stays)
        (in_order d who number may note Event.Pinned) (of_others d who number may note Event.Pinned)

    -- and its pass
    read_sound : (kind : Kind) → 0 < stripe_length d.shape → note.kind ≡ kind → (kind ≡ Kind.Write → ⊥) → IsSound (append_point who number note Event.Pinned d)
        → IsRight (append_point who number note Event.Pinned d) (new_pass who number note (seen kind) None) kind
        → IsSound (begin_pass who number note (seen kind) None (append_point who number note Event.Pinned d))
    read_sound kind some e reads pointed right =
        begun_sound (append_point who number note Event.Pinned d) pointed who number note (seen kind) None may.no_pass (seen_current kind some)
        (All-push (IsOfItsCall (new_pass who number note (seen kind) None)) d.points (record { actor = who; number = number; note = note; event = Event.Pinned })
        (earlier_points d who number may note (seen kind) None)
        (record { not_later = λ _. omega arith; own = λ _ _. inr (refl, refl) }))
        (subst (λ k. IsRight (append_point who number note Event.Pinned d) (new_pass who number note (seen kind) None) k) (sym e) right)
        (λ w. absurd (reads (sym e ∙ w)))

    -- ---- a stat and a delete
    -- a stat is answered with the length
    stat_sound : note.kind ≡ Kind.Stat → IsSound (append_point who number note (Event.Answer (reply.Length object.length)) d)
    stat_sound e =
        answered (reply.Length object.length)
        (told None accepted ∙ ap (λ k. reply_by k (found_length length_now)) e ∙ ap (λ o. reply.Length (found_length o)) length_is) refl tt

    -- a delete removes the object
    delete_sound : note.kind ≡ Kind.Delete → IsSound (append_point who number note (Event.Answer reply.Done) (without_object object d))
    delete_sound e =
        let same : note.name ≡ object.name = same_name note.name object.name place.2 in
        let point : Point = record { actor = who; number = number; note = note; event = Event.Answer reply.Done } in
        deleted_sound d sound object (ap (λ n. find_object n d.objects) (sym same) ∙ found) point same refl
        (told None accepted ∙ ap (λ k. reply_by k (found_length length_now)) e)
        (changed None accepted ∙ ap (λ k. lengths_unless k note (lengths_of d) None) e ∙ ap (λ n. delete_length n (lengths_of d)) same ∙ sym (lengths_removed object.name d.objects))
        (in_order d who number may note (Event.Answer reply.Done)) (of_others d who number may note (Event.Answer reply.Done))

  -- ---- a put, also of a new object
  -- its look keeps the directory sound
  put_sound : note.kind ≡ Kind.Put → note.offset ≡ 0 → refusal d.max note length_now ≡ None → IsSound (begin_pass who number note [] None d)
  put_sound e first accepted =
      begun_sound d sound who number note [] None may.no_pass (All-nil (λ (s : Seen). Stands d Standing.Current s.version)) (earlier_points d who number may note [] None)
      (subst (λ k. IsRight d (new_pass who number note [] None) k) (sym e) (
        first,
        λ count within.
            put_anywhere d.max note (lengths_after d.max (take count d.points)) (lengths_of d) e ∙ told None accepted ∙ ap (λ k. reply_by k (found_length length_now)) e,
        refl,
      ))
      (λ _ _. All-nil (λ (pin : Pin). IfSome (find_object note.name d.objects) (λ object. slice_get object.versions pin.stripe ≡ Some pin.version)))

-- ---- a client's look
-- what a client's call is
pub ClientNote : Note → Type 0
ClientNote note = (note.kind ≡ Kind.Write) ⊎ ((note.kind ≡ Kind.ReadAt) ⊎ ((note.kind ≢ Kind.Rebuild) × (note.offset ≡ 0)))

-- the condition of a client's look says so
pub client_note : (who : Actor) (note : Note) → IsOfClient who note → ClientNote note
unfolding ClientNote
client_note (actor.Client i) note h = h
client_note (actor.Repairer i) note h = absurd h
client_note actor.Sweeper note h = absurd h
client_note actor.Operator note h = absurd h

-- a kind as a number, to tell kinds apart
kind_number : Kind → ℕ
kind_number Kind.Put = 0
kind_number Kind.Write = 1
kind_number Kind.Get = 2
kind_number Kind.ReadAt = 3
kind_number Kind.Stat = 4
kind_number Kind.Delete = 5
kind_number Kind.Rebuild = 6

-- a get is no write
get_is_no_write : Kind.Get ≡ Kind.Write → ⊥
unfolding kind_number
get_is_no_write e = let bad : 2 ≡ 1 = ap kind_number e in omega (arith, bad)

-- nor is a read
read_is_no_write : Kind.ReadAt ≡ Kind.Write → ⊥
unfolding kind_number
read_is_no_write e = let bad : 3 ≡ 1 = ap kind_number e in omega (arith, bad)

-- nor is a rebuild
rebuild_is_no_write : Kind.Rebuild ≡ Kind.Write → ⊥
unfolding kind_number
rebuild_is_no_write e = let bad : 6 ≡ 1 = ap kind_number e in omega (arith, bad)

-- a put speaks of the bytes from the first one on
put_from_first : (note : Note) → ClientNote note → note.kind ≡ Kind.Put → note.offset ≡ 0
unfolding ClientNote kind_number
put_from_first note (inl e) k = absurd (let bad : 0 ≡ 1 = ap kind_number (sym k ∙ e) in omega (arith, bad))
put_from_first note (inr (inl e)) k = absurd (let bad : 0 ≡ 3 = ap kind_number (sym k ∙ e) in omega (arith, bad))
put_from_first note (inr (inr h)) k = h.1

-- a client makes no rebuild
pub no_rebuild : (note : Note) → ClientNote note → note.kind ≡ Kind.Rebuild → ⊥
unfolding ClientNote kind_number
no_rebuild note (inl e) k = let bad : 6 ≡ 1 = ap kind_number (sym k ∙ e) in omega (arith, bad)
no_rebuild note (inr (inl e)) k = let bad : 6 ≡ 3 = ap kind_number (sym k ∙ e) in omega (arith, bad)
no_rebuild note (inr (inr h)) k = h.0 k

module _ (d : Directory) (sound : IsSound d) (some : 0 < stripe_length d.shape) (who : Actor) (number : ℕ) (note : Note) (may : MayBegin d who number) (client : ClientNote note) where
  -- the object is there
  there_sound : (kind : Kind) (object : Object) → note.kind ≡ kind → find_object note.name d.objects ≡ Some object → refusal d.max note (length_in note.name (lengths_of d)) ≡ None
      → IsSound (accept who number note d kind object).0
  there_sound Kind.Put object e found accepted = put_sound d sound who number note may e (put_from_first note client e) accepted
  there_sound Kind.Write object e found accepted =
      subst (λ k. IsSound (begin_pass who number note (map (seen_at d object) (pinned_by k d.shape note object.length)) (last_change note.name d.points) d)) (sym e)
      (write_sound d sound who number note may object found accepted some e)
  there_sound Kind.Get object e found accepted =
      subst (λ k. IsSound (begin_pass who number note (map (seen_at d object) (pinned_by k d.shape note object.length)) None (append_point who number note Event.Pinned d))) (sym e)
      (read_sound d sound who number note may object found accepted Kind.Get some e get_is_no_write (pinned_point d sound who number note may object found accepted Kind.Get e refl refl refl) refl)
  there_sound Kind.ReadAt object e found accepted =
      subst (λ k. IsSound (begin_pass who number note (map (seen_at d object) (pinned_by k d.shape note object.length)) None (append_point who number note Event.Pinned d))) (sym e)
      (read_sound d sound who number note may object found accepted Kind.ReadAt some e read_is_no_write (pinned_point d sound who number note may object found accepted Kind.ReadAt e refl refl refl) refl)
  there_sound Kind.Stat object e found accepted = stat_sound d sound who number note may object found accepted e
  there_sound Kind.Delete object e found accepted = delete_sound d sound who number note may object found accepted e
  there_sound Kind.Rebuild object e found accepted = absurd (no_rebuild note client e)

  -- where there is no object, only a put isn't refused
  not_there : (kind : Kind) (object : Object) → note.kind ≡ kind → refusal_by d.max kind note.offset note.length None ≡ None → refusal d.max note (length_in note.name (lengths_of d)) ≡ None
      → IsSound (accept who number note d kind object).0
  not_there Kind.Put object e none accepted = put_sound d sound who number note may e (put_from_first note client e) accepted
  not_there _ object e none accepted = absurd (none-some _ (sym none))

  -- the map refuses nothing
  accepted_sound : (found : Option Object) → find_object note.name d.objects ≡ found → refusal d.max note (length_in note.name (lengths_of d)) ≡ None
      → IsSound (accept who number note d note.kind (unwrap_or found (record { name = note.name; length = 0; versions = [] }))).0
  accepted_sound (Some object) found accepted = there_sound note.kind object refl found accepted
  accepted_sound None found accepted =
      let length_is : length_in note.name (lengths_of d) ≡ None = sym (length_found note.name d.objects) ∙ ap (option_map (λ (o : Object). o.length)) found in
      not_there note.kind (record { name = note.name; length = 0; versions = [] }) refl (sym (ap (refusal d.max note) length_is) ∙ accepted) accepted

  -- by the refusal
  by_refusal : (refused : Option Reply) → refusal d.max note (length_in note.name (lengths_of d)) ≡ refused → IsSound (look_by who number note d (find_object note.name d.objects) refused).0
  by_refusal (Some given) e = refused_sound d sound who number note may given e
  by_refusal None e = accepted_sound (find_object note.name d.objects) refl e

  -- each look of a client
  looked_sound : IsSound (look who number note d).0
  looked_sound =
      subst (λ (o : Option ℕ). IsSound (look_by who number note d (find_object note.name d.objects) (refusal d.max note o)).0) (sym (length_found note.name d.objects))
      (by_refusal (refusal d.max note (length_in note.name (lengths_of d))) refl)

-- a client's look that may be made keeps the directory sound
pub look_sound : (who : Actor) (number : ℕ) (note : Note) (d : Directory) → 0 < stripe_length d.shape → IsSound d → MayBegin d who number × IsOfClient who note → IsSound (look who number note d).0
look_sound who number note d some sound may = looked_sound d sound some who number note may.0 (client_note who note may.1)

-- ---- a repairer's look
-- a repairer's call is a rebuild
pub rebuild_note : (who : Actor) (note : Note) → IsOfRepairer who note → note.kind ≡ Kind.Rebuild
rebuild_note (actor.Repairer i) note h = h
rebuild_note (actor.Client i) note h = absurd h
rebuild_note actor.Sweeper note h = absurd h
rebuild_note actor.Operator note h = absurd h

-- a repairer's look pins the stripe, if it is there, and keeps the directory sound
pub look_repair_sound : (who : Actor) (number : ℕ) (note : Note) (d : Directory) → IsSound d → MayBegin d who number × IsOfRepairer who note → IsSound (look_repair who number note d).0
look_repair_sound who number note d sound may = by (find_object note.name d.objects) refl
  where
    begins : (object : Object) → find_object note.name d.objects ≡ Some object → note.offset < length object.versions → IsSound (begin_pass who number note (seen_at d object note.offset ∷ []) None d)
    begins object found less =
        let place : Contains d.objects object × (bytes_eq note.name object.name ≡ true) = found_in (λ (o : Object). bytes_eq note.name o.name) d.objects object found in
        let its : HasItsVersions d object = All-contains (HasItsVersions d) d.objects object sound.objects place.0 in
        begun_sound d sound who number note (seen_at d object note.offset ∷ []) None may.0.no_pass
        (All-cons (λ (s : Seen). Stands d Standing.Current s.version) (seen_at d object note.offset) [] (its.current note.offset 0 less) (All-nil (λ (s : Seen). Stands d Standing.Current s.version)))
        (earlier_points d who number may.0 note (seen_at d object note.offset ∷ []) None)
        (subst (λ k. IsRight d (new_pass who number note (seen_at d object note.offset ∷ []) None) k) (sym (rebuild_note who note may.1)) refl)
        (λ w. absurd (rebuild_is_no_write (sym (rebuild_note who note may.1) ∙ w)))

    by : (found : Option Object) → find_object note.name d.objects ≡ found → IsSound (look_repair_by who number note d found).0
    by None e = sound
    by (Some object) e =
        cond_both {A = Directory × Told} (nat_lt note.offset (length object.versions))
        (begin_pass who number note (seen_at d object note.offset ∷ []) None d, Told.PinnedStripe (seen_at d object note.offset)) (d, Told.NoSuch) (λ r. IsSound r.0)
        (λ t. begins object e (ltb-true note.offset (length object.versions) t)) (λ _. sound)
