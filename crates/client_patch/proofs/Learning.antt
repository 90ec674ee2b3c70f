-- What a write learns by its look of the old bytes that it keeps.
use Rattle.std.specs.Prelude.{⊤}
use Rattle.std.proofs.Common.{◌≡◌, ◌⊎◌, ℕ, ◌+◌, ◌-◌, ◌*◌, ◌/◌, ◌<◌, ◌≤◌, min, Bool, true, false, List, [], ◌∷◌, ◌++◌, length, get_or, map, filter, slice_get, Option, None, Some, option_map, Result, Ok, Err, IfSome, unwrap_or, All, Contains, bytes_eq, refl, sym, ap, subst, ◌∙◌, inl, inr, arith}
use Rattle.std.specs.List.{range_with_len}
use Rattle.std.specs.declared.alloc.AllocError.{AllocError}
use Rattle.std.proofs.lemmas.Option.{slice_get_cases, slice_get_within}
use Rattle.std.proofs.lemmas.List.Elements.{Contains-get_or, All-head, All-tail, All-map, All-contains}
use Rattle.clay_grid.specs.Shape.{Shape, stripe_length}
use Rattle.store_map.specs.Limits.{stripes_met}
use Rattle.store_map.specs.declared.actor.Actor.{Actor}
use Rattle.store_map.specs.declared.reply.Reply.{Reply}
use Rattle.store_core.specs.Told.{Told, Seen as CoreSeen}
use Rattle.store_core.specs.Note.{Note, Kind, refusal, note_of}
use Rattle.store_core.specs.Act.{DirectoryStep}
use Rattle.store_core.specs.AtDirectory.{at_directory}
use Rattle.store_core.specs.Directory.{Object, Standing, Pin, Pass, Directory}
use Rattle.store_core.specs.Look.{pin_of, pinned_by, seen_at, keeps_old}
use Rattle.store_core.specs.Looks.{accept, answer}
use Rattle.store_core.specs.Lookups.{find_object}
use Rattle.store_core.specs.Sound.{IsSound}
use Rattle.store_core.specs.SoundPasses.{Stands}
use Rattle.run_laws.proofs.SoundLists.{at_all, found_at}
use Rattle.run_laws.proofs.SoundStripes.{pins_within}
use Rattle.version_seal.specs.Entry.{BookOf, StampOf, old_bytes}
use Rattle.dir_parts.specs.Parts.{object_or_new}
use Rattle.call_steps.specs.declared.seen.Seen.{Seen}
use Rattle.stripe_stamps.specs.SeenStripes.{seen_in}
use Rattle.stripe_stamps.specs.SeenStripes.{IsSeenIn}
use Rattle.stripe_stamps.specs.Sealed.{Sealed, base_stamp}
use Rattle.stripe_stamps.specs.Stamped.{HasStamps}
use Rattle.stripe_stamps.proofs.StampLists.{stamps_count}
use Rattle.stripe_dir.proofs.Lookings.{look_refused, look_accepted, old_count, pins_stand}
use Rattle.gather_parts.specs.Gatherings.{bytes_between}
use Rattle.gather_parts.specs.Wanted.{wanted_of, bytes_of}
use Rattle.client_patch.specs.Padded.{IsPadded, ItsArePadded, ArePadded}
use Rattle.client_patch.specs.Kept.{old_in}
use Rattle.client_patch.specs.Known.{AreOldBytes, UpToDraw}
use Rattle.client_patch.specs.Patches.{is_put, is_write}
use Rattle.client_patch.specs.LookAfter.{size_told, looked_stripes, IsPatchLook, IfReady}
use Rattle.call_steps.specs.Callers.{IsWaiting}
use Rattle.store_map.specs.declared.actor.Point.{Point}
use Rattle.store_map.specs.declared.call.Call.{Call}
use Rattle.store_core.specs.Agreement.{Seat, ActorToken}
use Rattle.store_core.specs.Tokens.{actor_of}
use Rattle.run_laws.specs.State.{State}
use Rattle.call_steps.specs.TokenAfter.{token_after, IfInCall}
use Rattle.stripe_dir.specs.declared.directory_answers.Look.{Look}
use Rattle.stripe_dir.specs.declared.directory_answers.Look.TheVariants as look_answer
use Rattle.stripe_dir.specs.Shown.{AreShown, stripes_seen}
use Rattle.client_patch.proofs.Gathered.{known_at}
use Rattle.client_patch.proofs.OfWrites.{write_kind, put_or_write}
use Rattle.client_patch.proofs.Puts.{old_of_nothing}
use Rattle.client_patch.proofs.Looks.{looked}
use Rattle.client_patch.proofs.KeptBytes.{content_of, gathered, old_is}

no_seens : (stripes : List Seen) → map seen_in stripes ≡ [] → stripes ≡ []
no_seens [] e = refl
no_seens (seen ∷ stripes) e = absurd (cc)

abbrev seens_told : Told → List CoreSeen
seens_told (Told.Ready base size seens) = seens
seens_told told = []

-- what a write is told that goes on
module _ (who : Actor) (number : ℕ) (note : Note) (d : Directory) (kind : note.kind ≡ Kind.Write) where
  abbrev object : Object
  object = object_or_new note.name d.objects

  pub ready_told : (short : Bool) (base : Option ℕ) (size : ℕ) (seens : List CoreSeen) → Told.Ready base size seens ≡ (at_directory short who number (DirectoryStep.Look note) d).1
      → (size ≡ (object_or_new note.name d.objects).length) × (seens ≡ map (seen_at d (object_or_new note.name d.objects)) (pinned_by Kind.Write d.shape note (object_or_new note.name d.objects).length))
  ready_told true base size seens e = absurd (cc)
  ready_told false base size seens e = by (refusal d.max note (option_map (λ (object : Object). object.length) (find_object note.name d.objects))) refl
    where
      by : (refused : Option Reply) → refusal d.max note (option_map (λ (object : Object). object.length) (find_object note.name d.objects)) ≡ refused
          → (size ≡ (object_or_new note.name d.objects).length) × (seens ≡ map (seen_at d (object_or_new note.name d.objects)) (pinned_by Kind.Write d.shape note (object_or_new note.name d.objects).length))
      by (Some reply) r =
          let told : Told.Ready base size seens ≡ (answer who number note d reply d).1 = e ∙ ap (λ (x : Directory × Told). x.1) (look_refused who number note d reply r) in
          absurd (cc)
      by None r =
          let told : Told.Ready base size seens ≡ (accept who number note d note.kind object).1 = e ∙ ap (λ (x : Directory × Told). x.1) (look_accepted who number note d r) in
          let write : Told.Ready base size seens ≡ (accept who number note d Kind.Write object).1 = told ∙ ap (λ k. (accept who number note d k object).1) kind in
          (ap size_told write, ap seens_told write ∙ ap (λ k. map (seen_at d object) (pinned_by k d.shape note object.length)) kind)

module _ (s : Sealed) (some : 0 < stripe_length s.core.shape) (sound : IsSound s.core) (has : HasStamps s) (padded : ArePadded s) (note : Note) where
  abbrev its : Object
  its = object_or_new note.name s.core.objects

  abbrev g : Shape
  g = s.core.shape

  its_padded : ItsArePadded s its
  its_padded = by (find_object note.name s.core.objects) refl
    where
      by : (found : Option Object) → find_object note.name s.core.objects ≡ found → ItsArePadded s (unwrap_or found (record { name = note.name; length = 0; versions = [] }))
      by None e = λ stripe less. absurd (omega (arith, less))
      by (Some object) e =
          let place : (i : ℕ) × (slice_get s.core.objects i ≡ Some object) × (bytes_eq note.name object.name ≡ true) = found_at (λ (o : Object). bytes_eq note.name o.name) s.core.objects object e in
          at_all (ItsArePadded s) s.core.objects place.0 object padded place.1

  abbrev pinned : List ℕ
  pinned = filter (keeps_old g its.length note.offset (note.offset + note.length)) (range_with_len (note.offset / stripe_length g) (stripes_met (stripe_length g) note.offset note.length))

  pinned_is : pinned_by Kind.Write g note its.length ≡ pinned
  pinned_is =
      let bytes : note.offset + note.length - note.offset ≡ note.length = omega arith in
      ap (λ n. filter (keeps_old g its.length note.offset (note.offset + note.length)) (range_with_len (note.offset / stripe_length g) (stripes_met (stripe_length g) note.offset n))) bytes

  stamped : (x : ℕ) → Contains pinned x → (stamp : StampOf) × (slice_get s.stamps (get_or its.versions x 0) ≡ Some stamp)
  stamped x c = by (slice_get_cases s.stamps (get_or its.versions x 0)).1
    where
      there : get_or its.versions x 0 < length s.stamps
      there =
          let stands : Stands s.core Standing.Current (get_or its.versions x 0)
          = All-contains (λ x. Stands s.core Standing.Current (get_or its.versions x 0)) (pinned_by Kind.Write g note its.length) x (pins_stand s.core some sound Kind.Write note) (subst (λ l. Contains l x) (sym pinned_is) c) in
          subst (λ n. get_or its.versions x 0 < n) (sym (stamps_count s has)) stands.1

      by : ((stamp : StampOf) × (get_or its.versions x 0 < length s.stamps) × (slice_get s.stamps (get_or its.versions x 0) ≡ Some stamp) × (get_or s.stamps (get_or its.versions x 0) stamp ≡ stamp))
          ⊎ ((length s.stamps ≤ get_or its.versions x 0) × (slice_get s.stamps (get_or its.versions x 0) ≡ None)) → (stamp : StampOf) × (slice_get s.stamps (get_or its.versions x 0) ≡ Some stamp)
      by (inl h) = (h.0, h.2)
      by (inr h) = absurd (let out : length s.stamps ≤ get_or its.versions x 0 = h.0 in let here : get_or its.versions x 0 < length s.stamps = there in omega (arith, out, here))

  whole : (x : ℕ) → Contains pinned x → IsPadded g its.length x (content_of (slice_get s.stamps (get_or its.versions x 0)))
  whole x c =
      let stamp : (stamp : StampOf) × (slice_get s.stamps (get_or its.versions x 0) ≡ Some stamp) = stamped x c in
      let within : x < stripes_met (stripe_length g) 0 its.length
      = All-contains (λ x. x < stripes_met (stripe_length g) 0 its.length) (pinned_by Kind.Write g note its.length) x (pins_within g some Kind.Write note its.length) (subst (λ l. Contains l x) (sym pinned_is) c) in
      let less : x < length its.versions = subst (λ n. x < n) (sym (old_count s.core sound note.name)) within in
      subst (λ found. IsPadded g its.length x (content_of found)) (sym stamp.1)
      (subst (λ found. IfSome found (λ stamp. IsPadded g its.length x stamp.content)) stamp.1 (its_padded x less))

  -- the bytes of stripes that are told
  abbrev told_bytes : ℕ → List CoreSeen → List ℕ
  told_bytes size [] = []
  told_bytes size (seen ∷ seens) = bytes_between (0 - seen.stripe * stripe_length g) (min (size - seen.stripe * stripe_length g) (stripe_length g)) (content_of (slice_get s.stamps seen.version)) ++ told_bytes size seens

  wanted_bytes : (size : ℕ) (stripes : List Seen) → All (IsSeenIn s.stamps) stripes → bytes_of (map (wanted_of g 0 size) stripes) ≡ told_bytes size (map seen_in stripes)
  wanted_bytes size [] own = refl
  wanted_bytes size (seen ∷ stripes) own =
      λ i. bytes_between (0 - seen.stripe * stripe_length g) (min (size - seen.stripe * stripe_length g) (stripe_length g)) (sym (ap content_of (All-head (IsSeenIn s.stamps) seen stripes own)) i)
      ++ wanted_bytes size stripes (All-tail (IsSeenIn s.stamps) seen stripes own) i

  told_gathered : (size n : ℕ) (xs : List ℕ) → told_bytes size (map (seen_at s.core its) xs) ≡ gathered g some size note.offset n s.stamps its.versions xs
  told_gathered size n [] = refl
  told_gathered size n (x ∷ xs) =
      ap (λ l. bytes_between (0 - x * stripe_length g) (min (size - x * stripe_length g) (stripe_length g)) (content_of (slice_get s.stamps (get_or its.versions x 0))) ++ l) (told_gathered size n xs)

  abbrev mk : ℕ → Pin
  mk x = record { stripe = x; version = get_or its.versions x 0 }

  pins_made : (xs : List ℕ) → map pin_of (map (seen_at s.core its) xs) ≡ map mk xs
  pins_made [] = refl
  pins_made (x ∷ xs) = ap (λ l. mk x ∷ l) (pins_made xs)

  within_by : (xs : List ℕ) → ((x : ℕ) → Contains xs x → Contains pinned x) → All (λ (pin : Pin). pin.version < length s.stamps) (map mk xs)
  within_by xs among = All-map (λ (pin : Pin). pin.version < length s.stamps) mk xs (λ i x less.
      let stamp : (stamp : StampOf) × (slice_get s.stamps (get_or its.versions (get_or xs i x) 0) ≡ Some stamp) = stamped (get_or xs i x) (among (get_or xs i x) (Contains-get_or xs i x less)) in
      slice_get_within s.stamps (get_or its.versions (get_or xs i x) 0) stamp.0 stamp.1)

  pub learnt : (book : BookOf) → book.geometry ≡ s.core.shape → (size : ℕ) (stripes : List Seen) (pass : Pass) → size ≡ its.length → map seen_in stripes ≡ map (seen_at s.core its) (pinned_by Kind.Write g note its.length)
      → All (IsSeenIn s.stamps) stripes → pass.pinned ≡ map pin_of (map seen_in stripes) → AreOldBytes s.stamps book note size (bytes_of (map (wanted_of book.geometry 0 size) stripes)) pass
  learnt book code size stripes pass size_is seens own pins =
      let told : map seen_in stripes ≡ map (seen_at s.core its) pinned = seens ∙ ap (map (seen_at s.core its)) pinned_is in
      let pinned_pins : pass.pinned ≡ map mk pinned = pins ∙ ap (map pin_of) told ∙ pins_made pinned in
      let bytes : bytes_of (map (wanted_of g 0 its.length) stripes) ≡ gathered g some its.length note.offset note.length s.stamps its.versions pinned
      = wanted_bytes its.length stripes own ∙ ap (told_bytes its.length) told ∙ told_gathered its.length note.length pinned in
      let kept : bytes_of (map (wanted_of book.geometry 0 size) stripes) ≡ gathered g some its.length note.offset note.length s.stamps its.versions pinned
      = (λ i. bytes_of (map (wanted_of (code i) 0 (size_is i)) stripes)) ∙ bytes in
      record {
        pins = subst (All (λ pin. pin.version < length s.stamps)) (sym pinned_pins) (within_by pinned (λ x c. c));
        bytes = λ place less.
            let here : place < stripes_met (stripe_length g) note.offset note.length = subst (λ (g : Shape). place < stripes_met (stripe_length g) note.offset note.length) code less in
            (λ i. old_bytes (code i) (base_stamp s.stamps (pinned_pins i) (note.offset / stripe_length (code i) + place)))
            ∙ old_is g some its.length note.offset note.length s.stamps its.versions whole stamped place here
            ∙ (λ i. old_in (sym code i) (sym size_is i) note.offset (note.offset + note.length) (sym kept i) (note.offset / stripe_length (sym code i) + place));
      }

-- by the answer
module _ (s : Sealed) (stamps : List StampOf) (same : stamps ≡ s.stamps) (some : 0 < stripe_length s.core.shape) (sound : IsSound s.core) (has : HasStamps s) (written : Call)
    (padded : is_write written ≡ true → ArePadded s) (book : BookOf) (code : book.geometry ≡ s.core.shape) (number : ℕ) where
  abbrev Knows : ℕ → List ℕ → ActorToken → Type 0
  Knows size kept token = IfInCall token (λ held. AreOldBytes stamps book (note_of written) size kept held.pass)

  knows_by : (seat : Seat) (answer : Result (Look ⊤ ⊤) AllocError) (short : Bool) (after : Directory) (size : ℕ) (kept : List ℕ)
      → IsPatchLook written (looked answer) → (after, looked answer) ≡ at_directory short seat.actor number (DirectoryStep.Look (note_of written)) s.core → AreShown s stripes_seen answer
      → size_told (looked answer) ≡ size → IfReady (looked answer) (kept ≡ bytes_of (map (wanted_of book.geometry 0 size) (looked_stripes answer)))
      → Knows size kept (token_after (ActorToken.Seated seat) number (DirectoryStep.Look (note_of written)) (looked answer))
  knows_by seat (Ok (look_answer.Answer gone point reply)) short after size kept fits made shown long is = tt
  knows_by seat (Err e) short after size kept fits made shown long is = tt
  knows_by seat (Ok (look_answer.Pinned gone point length stripes)) short after size kept fits made shown long is = absurd fits
  knows_by seat (Ok (look_answer.Ready gone base length stripes)) short after size kept fits made shown long is = by (put_or_write written fits.0)
    where
      pass : Pass
      pass = record { actor = seat.actor; number = number; note = note_of written; pinned = map pin_of (map seen_in stripes.items); drawn = []; base = option_map (λ (point : Point). point.0) base; reaped = None }

      by : (is_put written ≡ true) ⊎ (is_write written ≡ true) → AreOldBytes stamps book (note_of written) size kept pass
      by (inl put) =
          let none : stripes.items ≡ [] = no_seens stripes.items (fits.1 put) in
          old_of_nothing stamps book (note_of written) size kept pass (ap (map pin_of) (fits.1 put)) (is ∙ ap (λ stripes. bytes_of (map (wanted_of book.geometry 0 size) stripes)) none)
      by (inr write) =
          let kind : (note_of written).kind ≡ Kind.Write = write_kind written write in
          let told : (length ≡ (object_or_new (note_of written).name s.core.objects).length)
          × (map seen_in stripes.items ≡ map (seen_at s.core (object_or_new (note_of written).name s.core.objects)) (pinned_by Kind.Write s.core.shape (note_of written) (object_or_new (note_of written).name s.core.objects).length))
          = ready_told seat.actor number (note_of written) s.core kind short (option_map (λ (point : Point). point.0) base) length (map seen_in stripes.items) (ap (λ (x : Directory × Told). x.1) made) in
          subst (λ stamps. AreOldBytes stamps book (note_of written) size kept pass) (sym same)
          (subst (λ kept. AreOldBytes s.stamps book (note_of written) size kept pass) (sym is)
          (learnt s some sound has (padded write) (note_of written) book code size stripes.items pass (sym long ∙ told.0) told.1 (λ i x less. (shown i x less).own) refl))

  pub look_knows : (token now : ActorToken) (answer : Result (Look ⊤ ⊤) AllocError) (short : Bool) (after : Directory) (size : ℕ) (kept : List ℕ) (at : State)
      → IsWaiting number token → IsPatchLook written (looked answer) → (after, looked answer) ≡ at_directory short (actor_of token) number (DirectoryStep.Look (note_of written)) s.core → AreShown s stripes_seen answer
      → size_told (looked answer) ≡ size → IfReady (looked answer) (kept ≡ bytes_of (map (wanted_of book.geometry 0 size) (looked_stripes answer)))
      → now ≡ token_after token number (DirectoryStep.Look (note_of written)) (looked answer) → UpToDraw at (Knows size kept now)
  look_knows (ActorToken.InCall held) now answer short after size kept at waiting fits made shown long is token_is = absurd waiting
  look_knows (ActorToken.Seated seat) now answer short after size kept at waiting fits made shown long is token_is =
      known_at (Knows size kept now) at (subst (Knows size kept) (sym token_is) (knows_by seat answer short after size kept fits made shown long is))
