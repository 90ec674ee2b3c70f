-- The bytes that a get or a read is owed are those of the versions that its look pins.
use Rattle.std.proofs.Common.{◌≡◌, ℕ, ◌+◌, ◌-◌, ◌*◌, ◌/◌, ◌<◌, ◌≤◌, min, nat_lt, Bool, true, false, cond, List, [], ◌∷◌, ◌++◌, length, get_or, map, take, drop, slice_get, Option, None, Some, option_map, All, bytes_eq, refl, sym, ap, subst, ◌∙◌, arith, length-drop}
use Rattle.std.proofs.lemmas.Bool.{false≢true, ltb-false}
use Rattle.std.proofs.lemmas.Option.{same_Some, none-some}
use Rattle.std.proofs.lemmas.List.{take_all, take_min, get_or-map, get_or_append_left}
use Rattle.std.specs.List.{concat}
use Rattle.clay_grid.specs.Shape.{stripe_length}
use Rattle.clay_model.specs.Code.{stripes_below, stripes_of}
use Rattle.store_map.specs.Limits.{stripes_met}
use Rattle.store_map.specs.PlainMap.{Objects, bytes_of, read_at, get_all, apply}
use Rattle.store_map.specs.declared.actor.Actor.{Actor}
use Rattle.store_map.specs.declared.call.Call.{Call}
use Rattle.store_map.specs.declared.call.Call.TheVariants as call
use Rattle.store_map.specs.declared.reply.Reply.{Reply}
use Rattle.store_map.specs.declared.reply.Reply.TheVariants as reply
use Rattle.store_map.proofs.LimitLaws.{stripes_met-start}
use Rattle.store_core.specs.Told.{Told, Seen}
use Rattle.store_core.specs.Note.{Note, Kind, note_of, refusal_by, refusal}
use Rattle.store_core.specs.Act.{DirectoryStep, takes_memory}
use Rattle.store_core.specs.Directory.{Object, Standing, Event, Point, Directory}
use Rattle.store_core.specs.Lookups.{find_object}
use Rattle.store_core.specs.Look.{stripes_between, pinned_by, seen_at}
use Rattle.store_core.specs.Looks.{accept, look_by, look}
use Rattle.store_core.specs.Read.{read_end, read_end_by, part_of, parts_of}
use Rattle.store_core.specs.AtDirectory.{unless_short}
use Rattle.store_core.specs.History.{applied}
use Rattle.store_core.specs.Lengths.{length_in}
use Rattle.store_core.specs.Replay.{FitsEvent}
use Rattle.store_core.specs.SoundPasses.{Stands}
use Rattle.store_core.specs.Sound.{HasItsVersions, IsSound}
use Rattle.store_core.specs.Content.{contents_by}
use Rattle.run_laws.proofs.SoundLists.{at_all, found_at}
use Rattle.run_laws.proofs.SoundObjects.{length_found}
use Rattle.run_laws.proofs.SoundStripes.{pins_within}
use Rattle.run_laws.proofs.SoundLook.{look_sound}
use Rattle.store_core.specs.Calls.{Calls, IsNoteOf}
use Rattle.run_laws.specs.MapAfter.{map_by}
use Rattle.run_laws.specs.Contents.{HasBytes}
use Rattle.run_laws.specs.LengthLaws.{unread}
use Rattle.run_laws.specs.ReadLaws.{part_bytes, bytes_read, LooksOweTheirPins}
use Rattle.run_laws.proofs.Bytes.{stripe_at, stripes_below_at}
use Rattle.run_laws.proofs.ContentGrows.{count_contents}
use Rattle.run_laws.proofs.LengthProofs.{length_of_found}
use Rattle.run_laws.proofs.Maps.{entry_of, at, map_same, stored_found, cut_found}
use Rattle.run_laws.proofs.Replayed.{replayed, mapped}
use Rattle.run_laws.proofs.KeptDraw.{map_map}
use Rattle.run_laws.proofs.Ranges.{range_of, part_at, parts_are}

-- ---- answers
-- whether a look is answered with pins
is_pin : Told → Bool
is_pin (Told.Pinned point length_now seen) = true
is_pin told = false

-- the length that is told, and the stripes
told_length : Told → ℕ
told_length (Told.Pinned point length_now seen) = length_now
told_length told = 0

told_seen : Told → List Seen
told_seen (Told.Pinned point length_now seen) = seen
told_seen told = []

-- two such answers are of the same length and stripes
same_pins : (point other length_now other_length : ℕ) (seen other_seen : List Seen) → Told.Pinned point length_now seen ≡ Told.Pinned other other_length other_seen → (length_now ≡ other_length) × (seen ≡ other_seen)
unfolding told_length told_seen
same_pins point other length_now other_length seen other_seen e = (ap told_length e, ap told_seen e)

-- no other answer is one
not_pins : {A : Type 0} (told : Told) (point length_now : ℕ) (seen : List Seen) → is_pin told ≡ false → told ≡ Told.Pinned point length_now seen → A
unfolding is_pin
not_pins told point length_now seen none e = absurd (false≢true (sym none ∙ ap is_pin e))

-- answers with a reply, with a beginning, and of want of memory
answer_is_none : (point : ℕ) (r : Reply) → is_pin (Told.Answer point r) ≡ false
unfolding is_pin
answer_is_none point r = refl

ready_is_none : (base : Option ℕ) (length_now : ℕ) (seen : List Seen) → is_pin (Told.Ready base length_now seen) ≡ false
unfolding is_pin
ready_is_none base length_now seen = refl

short_is_none : is_pin Told.Short ≡ false
unfolding is_pin
short_is_none = refl

-- ---- the map's reply to a get or a read, by what it finds
get_reply : (most : ℕ) (c : Call) (note : Note) (objects : Objects) (bytes : List ℕ) → note_of c ≡ note → note.kind ≡ Kind.Get → bytes_of note.name objects ≡ Some bytes
    → ((apply most c objects).1 ≡ reply.Bytes bytes) × (note.offset ≡ 0)
get_reply most c note objects bytes noted kind found = by c noted (ap (λ (n : Note). n.kind) noted ∙ kind)
  where
    number : Kind → ℕ
    number Kind.Get = 1
    number _ = 0

    by : (c : Call) → note_of c ≡ note → (note_of c).kind ≡ Kind.Get → ((apply most c objects).1 ≡ reply.Bytes bytes) × (note.offset ≡ 0)
    by (call.Get name) e k = (ap get_all (ap (λ (n : Note). bytes_of n.name objects) e ∙ found), ap (λ (n : Note). n.offset) (sym e))
    by (call.Put name content) e k = absurd (let bad : 0 ≡ 1 = ap number k in omega (arith, bad))
    by (call.Write name offset content) e k = absurd (let bad : 0 ≡ 1 = ap number k in omega (arith, bad))
    by (call.ReadAt name offset count) e k = absurd (let bad : 0 ≡ 1 = ap number k in omega (arith, bad))
    by (call.Stat name) e k = absurd (let bad : 0 ≡ 1 = ap number k in omega (arith, bad))
    by (call.Delete name) e k = absurd (let bad : 0 ≡ 1 = ap number k in omega (arith, bad))

read_reply : (most : ℕ) (c : Call) (note : Note) (objects : Objects) (bytes : List ℕ) → note_of c ≡ note → note.kind ≡ Kind.ReadAt → bytes_of note.name objects ≡ Some bytes
    → (apply most c objects).1 ≡ read_at note.offset note.length (Some bytes)
read_reply most c note objects bytes noted kind found = by c noted (ap (λ (n : Note). n.kind) noted ∙ kind)
  where
    number : Kind → ℕ
    number Kind.ReadAt = 1
    number _ = 0

    by : (c : Call) → note_of c ≡ note → (note_of c).kind ≡ Kind.ReadAt → (apply most c objects).1 ≡ read_at note.offset note.length (Some bytes)
    by (call.ReadAt name offset count) e k =
        ap (λ (n : Note). read_at n.offset n.length (bytes_of n.name objects)) e ∙ ap (read_at note.offset note.length) found
    by (call.Put name content) e k = absurd (let bad : 0 ≡ 1 = ap number k in omega (arith, bad))
    by (call.Write name offset content) e k = absurd (let bad : 0 ≡ 1 = ap number k in omega (arith, bad))
    by (call.Get name) e k = absurd (let bad : 0 ≡ 1 = ap number k in omega (arith, bad))
    by (call.Stat name) e k = absurd (let bad : 0 ≡ 1 = ap number k in omega (arith, bad))
    by (call.Delete name) e k = absurd (let bad : 0 ≡ 1 = ap number k in omega (arith, bad))

-- no call of a client is a rebuild
no_rebuild_call : (c : Call) → (note_of c).kind ≡ Kind.Rebuild → ⊥
no_rebuild_call c k = by c k
  where
    number : Kind → ℕ
    number Kind.Rebuild = 1
    number _ = 0

    by : (c : Call) → (note_of c).kind ≡ Kind.Rebuild → ⊥
    by (call.Put name content) k = let bad : 0 ≡ 1 = ap number k in omega (arith, bad)
    by (call.Write name offset content) k = let bad : 0 ≡ 1 = ap number k in omega (arith, bad)
    by (call.Get name) k = let bad : 0 ≡ 1 = ap number k in omega (arith, bad)
    by (call.ReadAt name offset count) k = let bad : 0 ≡ 1 = ap number k in omega (arith, bad)
    by (call.Stat name) k = let bad : 0 ≡ 1 = ap number k in omega (arith, bad)
    by (call.Delete name) k = let bad : 0 ≡ 1 = ap number k in omega (arith, bad)

-- a read that is replied bytes begins in its object, and these are they
read_made : (offset count : ℕ) (bytes : List ℕ) → unread (read_at offset count (Some bytes)) ≡ reply.Bytes [] → (offset ≤ length bytes) × (read_at offset count (Some bytes) ≡ reply.Bytes (take count (drop offset bytes)))
read_made offset count bytes = by (nat_lt (length bytes) offset) refl
  where
    bytes_reply : Reply → Bool
    bytes_reply (reply.Bytes b) = true
    bytes_reply _ = false

    by : (b : Bool) → nat_lt (length bytes) offset ≡ b → unread (cond {A = Reply} b reply.OutRange (reply.Bytes (take count (drop offset bytes)))) ≡ reply.Bytes []
        → (offset ≤ length bytes) × (cond {A = Reply} b reply.OutRange (reply.Bytes (take count (drop offset bytes))) ≡ reply.Bytes (take count (drop offset bytes)))
    by true h e = absurd (false≢true (ap bytes_reply e))
    by false h e = (ltb-false (length bytes) offset h, refl)

module _ (calls : Calls) (d : Directory) (sound : IsSound d) (has : HasBytes calls d) (some : 0 < stripe_length d.shape) (who : Actor) (number : ℕ) (note : Note) (called : IsNoteOf calls who number note) (later : List (List ℕ)) where
  abbrev contents : List (List ℕ)
  contents = contents_by d.shape calls d.versions

  abbrev before : Objects
  before = map_by calls d.max d.points

  abbrev c : Call
  c = called.0

  abbrev point : Point
  point = record { actor = who; number = number; note = note; event = Event.Pinned }

  -- what the look owes, by what it told
  abbrev Owes : ℕ → List Seen → Type 0
  Owes length_now seen = (applied d.max before Event.Pinned (calls who number)).1 ≡ reply.Bytes (bytes_read (contents ++ later) (parts_of d.shape note length_now seen))

  -- the map's reply
  reply_is : (applied d.max before Event.Pinned (calls who number)).1 ≡ (apply d.max c before).1
  reply_is = ap (λ o. (applied d.max before Event.Pinned o).1) called.1

  module _ (object : Object) (is_found : find_object note.name d.objects ≡ Some object) (bytes : List ℕ) (is_bytes : bytes_of note.name before ≡ Some bytes) where
    -- the object's versions stand for the map's bytes
    stored : map (at contents) object.versions ≡ stripes_of d.shape bytes
    stored =
        same_Some (map (at contents) object.versions) (stripes_of d.shape bytes)
        (ap (option_map (λ (x : Object). map (at contents) x.versions)) (sym is_found)
        ∙ sym (stored_found contents note.name d.objects) ∙ ap (entry_of note.name) has.contents ∙ cut_found d.shape note.name before
        ∙ ap (option_map (λ (b : List ℕ). stripes_of d.shape b)) is_bytes)

    same_length : object.length ≡ length bytes
    same_length =
        same_Some object.length (length bytes)
        (ap (option_map (λ (x : Object). x.length)) (sym is_found)
        ∙ length_found note.name d.objects ∙ ap (length_in note.name) (sym (replayed calls d sound has.points)) ∙ length_of_found note.name before
        ∙ ap (option_map (λ (b : List ℕ). length b)) is_bytes)

    its : HasItsVersions d object
    its =
        let place : (i : ℕ) × (slice_get d.objects i ≡ Some object) × (bytes_eq note.name object.name ≡ true) = found_at (λ (o : Object). bytes_eq note.name o.name) d.objects object is_found in
        at_all (HasItsVersions d) d.objects place.0 object sound.objects place.1

    -- each stands for its stripe, also by later contents
    content_is : (i : ℕ) → i < length object.versions → get_or (contents ++ later) (get_or object.versions i 0) [] ≡ stripe_at (stripe_length d.shape) bytes i
    content_is i less =
        let stands : Stands d Standing.Current (get_or object.versions i 0) = its.current i 0 less in
        let there : get_or object.versions i 0 < length contents = subst (λ n. get_or object.versions i 0 < n) (sym (count_contents calls d.shape d.versions)) stands.1 in
        get_or_append_left contents later [] (get_or object.versions i 0) there
        ∙ sym (get_or-map (at contents) object.versions i 0 [] less)
        ∙ ap (λ l. get_or l i []) (stored ∙ ap (λ n. stripes_below (stripe_length d.shape) n bytes) (sym count))
        ∙ stripes_below_at (stripe_length d.shape) (length object.versions) i bytes less
      where
        count : length object.versions ≡ (length bytes + stripe_length d.shape - 1) / stripe_length d.shape
        count = its.count ∙ ap (stripes_met (stripe_length d.shape) 0) same_length ∙ stripes_met-start (stripe_length d.shape) (length bytes) some

    -- so the parts of the pinned stripes are the bytes from the start up to the end
    parts_owed : (end : ℕ) → read_end note object.length ≡ end → end ≤ length bytes → note.offset ≤ end
        → pinned_by note.kind d.shape note object.length ≡ stripes_between d.shape note.offset (read_end note object.length)
        → bytes_read (contents ++ later) (parts_of d.shape note object.length (map (seen_at d object) (pinned_by note.kind d.shape note object.length))) ≡ range_of bytes note.offset end
    parts_owed end end_is long begins stripes_are =
        ap concat
        (ap (map (part_bytes (contents ++ later))) (map_map (part_of d.shape note.offset (read_end note object.length)) (seen_at d object) pinned)
        ∙ map_map (part_bytes (contents ++ later)) (λ i. part_of d.shape note.offset (read_end note object.length) (seen_at d object i)) pinned
        ∙ map_same (λ i. part_bytes (contents ++ later) (part_of d.shape note.offset (read_end note object.length) (seen_at d object i))) (part_at (stripe_length d.shape) some bytes note.offset end long) pinned each
        ∙ ap (map (part_at (stripe_length d.shape) some bytes note.offset end long)) (stripes_are ∙ ap (stripes_between d.shape note.offset) end_is))
        ∙ parts_are (stripe_length d.shape) some bytes note.offset end long begins
      where
        pinned : List ℕ
        pinned = pinned_by note.kind d.shape note object.length

        each : All (λ i. part_bytes (contents ++ later) (part_of d.shape note.offset (read_end note object.length) (seen_at d object i)) ≡ part_at (stripe_length d.shape) some bytes note.offset end long i)
            (pinned_by note.kind d.shape note object.length)
        each k x less =
            let i : ℕ = get_or (pinned_by note.kind d.shape note object.length) k x in
            let inside : i < stripes_met (stripe_length d.shape) 0 object.length = pins_within d.shape some note.kind note object.length k x less in
            (λ j. range_of (content_is i (subst (λ n. i < n) (sym its.count) inside) j) (note.offset - i * stripe_length d.shape) (min (end_is j - i * stripe_length d.shape) (stripe_length d.shape)))

    -- a get
    get_owed : note.kind ≡ Kind.Get → Owes object.length (map (seen_at d object) (pinned_by note.kind d.shape note object.length))
    get_owed kind =
        let told : ((apply d.max c before).1 ≡ reply.Bytes bytes) × (note.offset ≡ 0) = get_reply d.max c note before bytes called.2 kind is_bytes in
        let end_is : read_end note object.length ≡ length bytes = ap (λ k. read_end_by k note.offset note.length object.length) kind ∙ same_length in
        let first : note.offset ≡ 0 = told.1 in
        reply_is ∙ told.0
        ∙ ap reply.Bytes
        (sym (parts_owed (length bytes) end_is (omega arith) (omega (arith, first)) (ap (λ k. pinned_by k d.shape note object.length) kind)
        ∙ ap (λ n. range_of bytes n (length bytes)) first
        ∙ take_all (length bytes - 0) bytes (omega arith)))

    -- a read
    read_owed : note.kind ≡ Kind.ReadAt → unread (apply d.max c before).1 ≡ reply.Bytes [] → Owes object.length (map (seen_at d object) (pinned_by note.kind d.shape note object.length))
    read_owed kind given =
        let told : (apply d.max c before).1 ≡ read_at note.offset note.length (Some bytes) = read_reply d.max c note before bytes called.2 kind is_bytes in
        let made : (note.offset ≤ length bytes) × (read_at note.offset note.length (Some bytes) ≡ reply.Bytes (take note.length (drop note.offset bytes))) =
        read_made note.offset note.length bytes (sym (ap unread told) ∙ given) in
        let end_is : read_end note object.length ≡ min (note.offset + note.length) (length bytes) =
        ap (λ k. read_end_by k note.offset note.length object.length) kind ∙ ap (λ n. min (note.offset + note.length) n) same_length in
        reply_is ∙ told ∙ made.1
        ∙ ap reply.Bytes
        (sym (parts_owed (min (note.offset + note.length) (length bytes)) end_is (least (length bytes)) (begins (length bytes) made.0) (ap (λ k. pinned_by k d.shape note object.length) kind)
        ∙ ap (λ n. take n (drop note.offset bytes)) (counts (length bytes) (length (drop note.offset bytes)) (length-drop note.offset bytes))
        ∙ take_min note.length (drop note.offset bytes)))
      where
        least : (m : ℕ) → min (note.offset + note.length) m ≤ m
        least m = omega arith

        begins : (m : ℕ) → note.offset ≤ m → note.offset ≤ min (note.offset + note.length) m
        begins m h = omega (arith, h)

        counts : (m l : ℕ) → l ≡ m - note.offset → min (note.offset + note.length) m - note.offset ≡ min note.length l
        counts m l e = omega (arith, e)

  -- ---- by what was found
  abbrev new_object : Object
  new_object = record { name = note.name; length = 0; versions = [] }

  -- the map finds what the directory finds
  bytes_there : (object : Object) → find_object note.name d.objects ≡ Some object → (found : Option (List ℕ)) → bytes_of note.name before ≡ found → (bytes : List ℕ) × (bytes_of note.name before ≡ Some bytes)
  bytes_there object is_found (Some bytes) e = (bytes, e)
  bytes_there object is_found None e =
      absurd (none-some (map (at contents) object.versions)
      (sym (ap (option_map (λ (x : Object). map (at contents) x.versions)) (sym is_found)
      ∙ sym (stored_found contents note.name d.objects) ∙ ap (entry_of note.name) has.contents ∙ cut_found d.shape note.name before
      ∙ ap (option_map (λ (b : List ℕ). stripes_of d.shape b)) e)))

  -- the pinned point's reply
  pinned_reply : (after : Directory) → IsSound after → after.max ≡ d.max → after.points ≡ d.points ++ point ∷ [] → FitsEvent Event.Pinned note.kind (unread (apply d.max c before).1)
  pinned_reply after now same_max more = mapped calls d after point sound now same_max more has.points c called.2

  accepted : (kind : Kind) → note.kind ≡ kind → (object : Object) → find_object note.name d.objects ≡ Some object → IsSound (accept who number note d kind object).0
      → (told_point length_now : ℕ) (seen : List Seen) → (accept who number note d kind object).1 ≡ Told.Pinned told_point length_now seen → Owes length_now seen
  accepted Kind.Put e object is_found now p l seen told = not_pins _ p l seen (ready_is_none None object.length []) told
  accepted Kind.Write e object is_found now p l seen told = not_pins _ p l seen (ready_is_none _ object.length _) told
  accepted Kind.Stat e object is_found now p l seen told = not_pins _ p l seen (answer_is_none (length d.points) _) told
  accepted Kind.Delete e object is_found now p l seen told = not_pins _ p l seen (answer_is_none (length d.points) _) told
  accepted Kind.Rebuild e object is_found now p l seen told = absurd (no_rebuild_call c (ap (λ (n : Note). n.kind) called.2 ∙ e))
  accepted Kind.Get e object is_found now p l seen told =
      let b : (bytes : List ℕ) × (bytes_of note.name before ≡ Some bytes) = bytes_there object is_found (bytes_of note.name before) refl in
      let same : (object.length ≡ l) × (map (seen_at d object) (pinned_by note.kind d.shape note object.length) ≡ seen) = same_pins (length d.points) p object.length l _ seen told in
      subst (λ s. Owes l s) same.1 (subst (λ n. Owes n (map (seen_at d object) (pinned_by note.kind d.shape note object.length))) same.0 (get_owed object is_found b.0 b.1 e))
  accepted Kind.ReadAt e object is_found now p l seen told =
      let b : (bytes : List ℕ) × (bytes_of note.name before ≡ Some bytes) = bytes_there object is_found (bytes_of note.name before) refl in
      let same : (object.length ≡ l) × (map (seen_at d object) (pinned_by note.kind d.shape note object.length) ≡ seen) = same_pins (length d.points) p object.length l _ seen told in
      let given : unread (apply d.max c before).1 ≡ reply.Bytes [] =
      subst (λ k. FitsEvent Event.Pinned k (unread (apply d.max c before).1)) e (pinned_reply (accept who number note d Kind.ReadAt object).0 now refl refl) in
      subst (λ s. Owes l s) same.1 (subst (λ n. Owes n (map (seen_at d object) (pinned_by note.kind d.shape note object.length))) same.0 (read_owed object is_found b.0 b.1 e given))

  -- where nothing is found only a put isn't refused
  not_there : (kind : Kind) → note.kind ≡ kind → refusal d.max note None ≡ None → (told_point length_now : ℕ) (seen : List Seen) → (accept who number note d kind new_object).1 ≡ Told.Pinned told_point length_now seen → Owes length_now seen
  not_there Kind.Put e none p l seen told = not_pins _ p l seen (ready_is_none None 0 []) told
  not_there Kind.Write e none p l seen told = not_pins _ p l seen (ready_is_none _ 0 _) told
  not_there Kind.Stat e none p l seen told = not_pins _ p l seen (answer_is_none (length d.points) _) told
  not_there Kind.Delete e none p l seen told = not_pins _ p l seen (answer_is_none (length d.points) _) told
  not_there Kind.Get e none p l seen told = absurd (none-some reply.NoSuch (sym none ∙ ap (λ k. refusal_by d.max k note.offset note.length None) e))
  not_there Kind.ReadAt e none p l seen told = absurd (none-some reply.NoSuch (sym none ∙ ap (λ k. refusal_by d.max k note.offset note.length None) e))
  not_there Kind.Rebuild e none p l seen told = absurd (no_rebuild_call c (ap (λ (n : Note). n.kind) called.2 ∙ e))

  by_refusal : (found : Option Object) → find_object note.name d.objects ≡ found → (refused : Option Reply) → refusal d.max note (option_map (λ (o : Object). o.length) found) ≡ refused
      → IsSound (look_by who number note d found refused).0 → (told_point length_now : ℕ) (seen : List Seen) → (look_by who number note d found refused).1 ≡ Told.Pinned told_point length_now seen → Owes length_now seen
  by_refusal found is_found (Some given) e now p l seen told = not_pins _ p l seen (answer_is_none (length d.points) given) told
  by_refusal (Some object) is_found None e now p l seen told = accepted note.kind refl object is_found now p l seen told
  by_refusal None is_found None e now p l seen told = not_there note.kind refl e p l seen told

  look_owes : IsSound (look who number note d).0 → (told_point length_now : ℕ) (seen : List Seen) → (look who number note d).1 ≡ Told.Pinned told_point length_now seen → Owes length_now seen
  look_owes now p l seen told =
      by_refusal (find_object note.name d.objects) refl (refusal d.max note (option_map (λ (o : Object). o.length) (find_object note.name d.objects))) refl now p l seen told

  short_owes : (short takes : Bool) → IsSound (look who number note d).0 → (told_point length_now : ℕ) (seen : List Seen)
      → (unless_short short takes who number (DirectoryStep.Look note) d).1 ≡ Told.Pinned told_point length_now seen → Owes length_now seen
  short_owes true true now p l seen told = not_pins Told.Short p l seen short_is_none told
  short_owes true false now p l seen told = look_owes now p l seen told
  short_owes false true now p l seen told = look_owes now p l seen told
  short_owes false false now p l seen told = look_owes now p l seen told

-- the law
pub looks_owe_their_pins : LooksOweTheirPins
looks_owe_their_pins calls short who number note d point length_now seen later some sound has may called told =
    short_owes calls d sound has some who number note called later short (takes_memory (DirectoryStep.Look note)) (look_sound who number note d some sound may) point length_now seen told
