-- The plain map after the calls at the points has the lengths that the points are replayed to.
use Rattle.std.proofs.Common.{◌≡◌, ◌≢◌, ◌⊎◌, ℕ, zero, suc, ◌+◌, ◌≤◌, nat_lt, Bool, true, false, cond, List, [], ◌∷◌, ◌++◌, length, take, fold, slice_get, Option, None, Some, All, refl, sym, ap, subst, ◌∙◌, inl, inr}
use Rattle.std.proofs.lemmas.Bool.{true≢false, false≢true, ltb-false}
use Rattle.std.proofs.lemmas.List.Sums.{fold-append}
use Rattle.std.proofs.lemmas.Option.{same_Some, none-some}
use Rattle.std.proofs.lemmas.List.Elements.{All-head, All-tail, All-take}
use Rattle.store_map.specs.Content.{content_bytes, content_length, overwrite}
use Rattle.store_map.specs.PlainMap.{Objects, bytes_of, put, delete, put_sized, write_at, delete_found, apply}
use Rattle.store_map.specs.declared.call.Call.{Call}
use Rattle.store_map.specs.declared.call.Call.TheVariants as call
use Rattle.store_map.specs.declared.content.Content.{Content}
use Rattle.store_map.specs.declared.reply.Reply.{Reply}
use Rattle.store_map.specs.declared.reply.Reply.TheVariants as reply
use Rattle.store_core.specs.Note.{Kind, note_of}
use Rattle.store_core.specs.Directory.{Event, Point, Directory}
use Rattle.store_core.specs.Lookups.{is_ok, is_change}
use Rattle.store_core.specs.History.{applied}
use Rattle.store_core.specs.Lengths.{Lengths, apply_length}
use Rattle.store_core.specs.Replay.{FitsEvent, after_event, Replays}
use Rattle.store_core.specs.Sound.{IsSound, lengths_of}
use Rattle.run_laws.proofs.SoundLists.{at_all}
use Rattle.run_laws.proofs.SoundHistory.{HasNoBytes, answer_fits, lengths_from, replays_end}
use Rattle.store_core.specs.Calls.{Calls, IsNoteOf}
use Rattle.run_laws.specs.MapAfter.{map_by}
use Rattle.run_laws.specs.LengthLaws.{lengths_seen, unread}
use Rattle.run_laws.specs.ReplayLaws.{SoundReplaysTheMap}
use Rattle.run_laws.proofs.LengthProofs.{call_same}

-- a call of a point, or a reap
abbrev pub IsCalled : Calls → Point → Type 0
IsCalled calls point = (point.event ≡ Event.Reaped) ⊎ IsNoteOf calls point.actor point.number point.note

-- whether a point is a reap
is_reap : Event → Bool
is_reap Event.Reaped = true
is_reap _ = false

-- ---- a call that is no reap's
-- what an event that is no reap leaves to the call
call_applied : (most : ℕ) (objects : Objects) (event : Event) (c : Call) → event ≢ Event.Reaped → applied most objects event (Some c) ≡ apply most c objects
call_applied most objects (Event.Answer given) c other = refl
call_applied most objects Event.Pinned c other = refl
call_applied most objects Event.Done c other = refl
call_applied most objects Event.Reaped c other = absurd (other refl)

-- and to the lengths
after_other : (event : Event) (before after : Lengths) → event ≢ Event.Reaped → after_event event before after ≡ after
after_other (Event.Answer given) before after other = refl
after_other Event.Pinned before after other = refl
after_other Event.Done before after other = refl
after_other Event.Reaped before after other = absurd (other refl)

-- an event is a reap's or none
reap_or_not : (event : Event) → (event ≡ Event.Reaped) ⊎ (event ≢ Event.Reaped)
unfolding is_reap
reap_or_not (Event.Answer given) = inr (λ e. false≢true (ap is_reap e))
reap_or_not Event.Pinned = inr (λ e. false≢true (ap is_reap e))
reap_or_not Event.Done = inr (λ e. false≢true (ap is_reap e))
reap_or_not Event.Reaped = inl refl

-- no change is a reap
pub change_is_no_reap : (event : Event) → is_change event ≡ true → event ≢ Event.Reaped
change_is_no_reap event changes e = false≢true (ap is_change (sym e) ∙ changes)

module _ (calls : Calls) (most : ℕ) where
  -- the map after one point more
  abbrev pub step_map : Objects → Point → Objects
  step_map objects point = (applied most objects point.event (calls point.actor point.number)).0

  -- what a point with a call does to a map
  pub map_called : (objects : Objects) (point : Point) (c : Call) → calls point.actor point.number ≡ Some c → point.event ≢ Event.Reaped → step_map objects point ≡ (apply most c objects).0
  map_called objects point c is other = ap (λ o. (applied most objects point.event o).0) is ∙ ap (λ (r : Objects × Reply). r.0) (call_applied most objects point.event c other)

  -- a point's call, seen by its lengths
  one_replayed : (objects : Objects) (point : Point) → IsCalled calls point → lengths_seen (step_map objects point) ≡ after_event point.event (lengths_seen objects) (apply_length most point.note (lengths_seen objects)).0
  one_replayed objects point called = by called (reap_or_not point.event)
    where
      reaped : point.event ≡ Event.Reaped → lengths_seen (step_map objects point) ≡ after_event point.event (lengths_seen objects) (apply_length most point.note (lengths_seen objects)).0
      reaped e =
          ap (λ m. lengths_seen (applied most objects m (calls point.actor point.number)).0) e
          ∙ sym (ap (λ m. after_event m (lengths_seen objects) (apply_length most point.note (lengths_seen objects)).0) e)

      by : IsCalled calls point → (point.event ≡ Event.Reaped) ⊎ (point.event ≢ Event.Reaped)
          → lengths_seen (step_map objects point) ≡ after_event point.event (lengths_seen objects) (apply_length most point.note (lengths_seen objects)).0
      by (inl e) other = reaped e
      by (inr h) (inl e) = reaped e
      by (inr h) (inr other) =
          ap lengths_seen (map_called objects point h.0 h.1 other)
          ∙ (call_same most objects h.0).lengths
          ∙ ap (λ n. (apply_length most n (lengths_seen objects)).0) h.2
          ∙ sym (after_other point.event (lengths_seen objects) (apply_length most point.note (lengths_seen objects)).0 other)

  -- all points
  replayed_from : (points : List Point) (objects : Objects) → All (IsCalled calls) points → lengths_seen (fold step_map objects points) ≡ lengths_from most (lengths_seen objects) points
  replayed_from [] objects called = refl
  replayed_from (point ∷ points) objects called =
      replayed_from points (step_map objects point) (All-tail (IsCalled calls) point points called)
      ∙ ap (λ l. lengths_from most l points) (one_replayed objects point (All-head (IsCalled calls) point points called))

  -- the map with one point more
  pub map_more : (points : List Point) (point : Point) → map_by calls most (points ++ point ∷ []) ≡ step_map (map_by calls most points) point
  map_more points point = fold-append step_map [] points (point ∷ [])

-- a sound directory's objects have the lengths of the map
pub replayed : (calls : Calls) (d : Directory) → IsSound d → All (IsCalled calls) d.points → lengths_seen (map_by calls d.max d.points) ≡ lengths_of d
replayed calls d sound called = replayed_from calls d.max d.points [] called ∙ replays_end d.max [] d.points (lengths_of d) sound.history

-- ---- the reply at the last point
-- what the last event says
last_fits : (most : ℕ) (lengths : Lengths) (points : List Point) (point : Point) (end : Lengths) → Replays most lengths (points ++ point ∷ []) end
    → FitsEvent point.event point.note.kind (apply_length most point.note (lengths_from most lengths points)).1
last_fits most lengths [] point end h = h.0
last_fits most lengths (first ∷ points) point end h = last_fits most (after_event first.event lengths (apply_length most first.note lengths).0) points point end h.1

-- so the map replies
pub mapped : (calls : Calls) (d after : Directory) (point : Point) → IsSound d → IsSound after → after.max ≡ d.max → after.points ≡ d.points ++ point ∷ [] → All (IsCalled calls) d.points
    → (c : Call) → note_of c ≡ point.note → FitsEvent point.event point.note.kind (unread (apply d.max c (map_by calls d.max d.points)).1)
mapped calls d after point sound now same_max more called c noted =
    let history : Replays d.max [] (d.points ++ point ∷ []) (lengths_of after) = subst (λ ps. Replays d.max [] ps (lengths_of after)) more (subst (λ n. Replays n [] after.points (lengths_of after)) same_max now.history) in
    let fits : FitsEvent point.event point.note.kind (apply_length d.max point.note (lengths_from d.max [] d.points)).1 = last_fits d.max [] d.points point (lengths_of after) history in
    let told : unread (apply d.max c (map_by calls d.max d.points)).1 ≡ (apply_length d.max point.note (lengths_from d.max [] d.points)).1 =
    (call_same d.max (map_by calls d.max d.points) c).replies
    ∙ ap (λ n. (apply_length d.max n (lengths_seen (map_by calls d.max d.points))).1) noted
    ∙ ap (λ l. (apply_length d.max point.note l).1) (replayed_from calls d.max d.points [] called) in
    subst (FitsEvent point.event point.note.kind) (sym told) fits

-- ---- what a reply says of the map
module _ (most : ℕ) (objects : Objects) where
  -- a put is replied ok only where it was made
  pub put_made : (name : List ℕ) (c : Content) → unread (put_sized most name c objects).1 ≡ reply.Done → (put_sized most name c objects).0 ≡ put name (content_bytes c) objects
  put_made name c = by (nat_lt most (content_length c))
    where
      by : (b : Bool) → unread (cond {A = Objects × Reply} b (objects, reply.TooLarge) (put name (content_bytes c) objects, reply.Done)).1 ≡ reply.Done
          → (cond {A = Objects × Reply} b (objects, reply.TooLarge) (put name (content_bytes c) objects, reply.Done)).0 ≡ put name (content_bytes c) objects
      by true e = absurd (false≢true (ap is_ok e))
      by false e = refl

  -- so is a write, where it begins in its object or at its end
  pub write_made : (name : List ℕ) (offset : ℕ) (c : Content) (bytes : List ℕ) → unread (write_at most name offset c objects (Some bytes)).1 ≡ reply.Done
      → (offset ≤ length bytes) × ((write_at most name offset c objects (Some bytes)).0 ≡ put name (overwrite bytes offset (content_bytes c)) objects)
  write_made name offset c bytes = by (nat_lt (length bytes) offset) refl (nat_lt most (offset + content_length c))
    where
      result : Bool → Bool → Objects × Reply
      result b large =
          cond {A = Objects × Reply} b (objects, reply.OutRange) (cond {A = Objects × Reply} large (objects, reply.TooLarge) (put name (overwrite bytes offset (content_bytes c)) objects, reply.Done))

      by : (b : Bool) → nat_lt (length bytes) offset ≡ b → (large : Bool) → unread (result b large).1 ≡ reply.Done
          → (offset ≤ length bytes) × ((result b large).0 ≡ put name (overwrite bytes offset (content_bytes c)) objects)
      by true h large e = absurd (false≢true (ap is_ok e))
      by false h true e = absurd (false≢true (ap is_ok e))
      by false h false e = (ltb-false (length bytes) offset h, refl)

  -- and a delete
  pub delete_made : (name : List ℕ) (found : Option (List ℕ)) → unread (delete_found name objects found).1 ≡ reply.Done → (delete_found name objects found).0 ≡ delete name objects
  delete_made name None e = absurd (false≢true (ap is_ok e))
  delete_made name (Some bytes) e = refl

  -- a call that isn't replied ok leaves the map
  put_quiet : (name : List ℕ) (c : Content) → is_ok (unread (put_sized most name c objects).1) ≡ false → (put_sized most name c objects).0 ≡ objects
  put_quiet name c = by (nat_lt most (content_length c))
    where
      by : (b : Bool) → is_ok (unread (cond {A = Objects × Reply} b (objects, reply.TooLarge) (put name (content_bytes c) objects, reply.Done)).1) ≡ false
          → (cond {A = Objects × Reply} b (objects, reply.TooLarge) (put name (content_bytes c) objects, reply.Done)).0 ≡ objects
      by true e = refl
      by false e = absurd (true≢false e)

  write_quiet : (name : List ℕ) (offset : ℕ) (c : Content) (found : Option (List ℕ)) → is_ok (unread (write_at most name offset c objects found).1) ≡ false → (write_at most name offset c objects found).0 ≡ objects
  write_quiet name offset c None e = refl
  write_quiet name offset c (Some bytes) e = by (nat_lt (length bytes) offset) (nat_lt most (offset + content_length c)) e
    where
      result : Bool → Bool → Objects × Reply
      result b large =
          cond {A = Objects × Reply} b (objects, reply.OutRange) (cond {A = Objects × Reply} large (objects, reply.TooLarge) (put name (overwrite bytes offset (content_bytes c)) objects, reply.Done))

      by : (b large : Bool) → is_ok (unread (result b large).1) ≡ false → (result b large).0 ≡ objects
      by true large e = refl
      by false true e = refl
      by false false e = absurd (true≢false e)

  delete_quiet : (name : List ℕ) (found : Option (List ℕ)) → is_ok (unread (delete_found name objects found).1) ≡ false → (delete_found name objects found).0 ≡ objects
  delete_quiet name None e = refl
  delete_quiet name (Some bytes) e = absurd (true≢false e)

  pub quiet_call : (c : Call) → is_ok (unread (apply most c objects).1) ≡ false → (apply most c objects).0 ≡ objects
  quiet_call (call.Put name c) e = put_quiet name c e
  quiet_call (call.Write name offset c) e = write_quiet name offset c (bytes_of name objects) e
  quiet_call (call.Get name) e = refl
  quiet_call (call.ReadAt name offset count) e = refl
  quiet_call (call.Stat name) e = refl
  quiet_call (call.Delete name) e = delete_quiet name (bytes_of name objects) e

-- a pinned point's reply isn't ok
pinned_bad : (kind : Kind) (r : Reply) → FitsEvent Event.Pinned kind r → is_ok r ≡ false
pinned_bad Kind.Get r h = ap is_ok h
pinned_bad Kind.ReadAt r h = ap is_ok h
pinned_bad kind r h = absurd h

-- nor is that of a point that is no change
quiet_reply : (event : Event) (kind : Kind) (r : Reply) → event ≢ Event.Reaped → is_change event ≡ false → FitsEvent event kind r → is_ok r ≡ false
quiet_reply (Event.Answer given) kind r other none h = ap is_ok (answer_fits given kind r h) ∙ none
quiet_reply Event.Pinned kind r other none h = pinned_bad kind r h
quiet_reply Event.Done kind r other none h = absurd (true≢false none)
quiet_reply Event.Reaped kind r other none h = absurd (other refl)

-- a point that is no change leaves the map
pub quiet_point : (calls : Calls) (d after : Directory) (point : Point) → IsSound d → IsSound after → after.max ≡ d.max → after.points ≡ d.points ++ point ∷ [] → All (IsCalled calls) d.points
    → IsCalled calls point → is_change point.event ≡ false → map_by calls d.max (d.points ++ point ∷ []) ≡ map_by calls d.max d.points
quiet_point calls d after point sound now same_max more called is none = map_more calls d.max d.points point ∙ by is (reap_or_not point.event)
  where
    m : Objects
    m = map_by calls d.max d.points

    reaped : point.event ≡ Event.Reaped → step_map calls d.max m point ≡ m
    reaped e = ap (λ k. (applied d.max m k (calls point.actor point.number)).0) e

    by : IsCalled calls point → (point.event ≡ Event.Reaped) ⊎ (point.event ≢ Event.Reaped) → step_map calls d.max m point ≡ m
    by (inl e) other = reaped e
    by (inr h) (inl e) = reaped e
    by (inr h) (inr other) =
        map_called calls d.max m point h.0 h.1 other
        ∙ quiet_call d.max m h.0
        (quiet_reply point.event point.note.kind (unread (apply d.max h.0 m).1) other none (mapped calls d after point sound now same_max more called h.0 h.2))

-- ---- each point's reply
-- what its event says
fits_there : (most : ℕ) (lengths : Lengths) (points : List Point) (end : Lengths) (i : ℕ) (point : Point) → Replays most lengths points end → slice_get points i ≡ Some point
    → FitsEvent point.event point.note.kind (apply_length most point.note (lengths_from most lengths (take i points))).1
fits_there most lengths [] end i point replays e = absurd (none-some point e)
fits_there most lengths (first ∷ points) end zero point replays e =
    subst (λ (p : Point). FitsEvent p.event p.note.kind (apply_length most p.note lengths).1) (same_Some first point e) replays.0
fits_there most lengths (first ∷ points) end (suc i) point replays e = fits_there most (after_event first.event lengths (apply_length most first.note lengths).0) points end i point replays.1 e

-- an answered event has no bytes
answered_without : (given : Reply) (kind : Kind) (r : Reply) → FitsEvent (Event.Answer given) kind r → HasNoBytes given
answered_without (reply.Bytes bytes) kind r h = absurd h
answered_without _ kind r h = tt

-- a reply that has none is read off its lengths
read_back : (r given : Reply) → HasNoBytes given → unread r ≡ given → r ≡ given
read_back (reply.Bytes bytes) given none e = absurd (subst HasNoBytes (sym e) none)
read_back r given none e = e

-- so the map replies
pub replays_the_map : SoundReplaysTheMap
replays_the_map calls d sound called =
    record {
      lengths = replayed calls d sound called;
      replies = replies;
      answers = λ i point given e answer.
          let fits : FitsEvent (Event.Answer given) point.note.kind (unread (replied_at i point)) = subst (λ m. FitsEvent m point.note.kind (unread (replied_at i point))) answer (replies i point e) in
          read_back (replied_at i point) given (answered_without given point.note.kind (unread (replied_at i point)) fits) (answer_fits given point.note.kind (unread (replied_at i point)) fits);
    }
  where
    now : ℕ → Objects
    now i = map_by calls d.max (take i d.points)

    reaped : (event : Event) (kind : Kind) (r : Reply) → event ≡ Event.Reaped → FitsEvent event kind r
    reaped event kind r e = subst (λ m. FitsEvent m kind r) (sym e) tt

    by : (i : ℕ) (point : Point) → (point.event ≡ Event.Reaped) ⊎ (point.event ≢ Event.Reaped) → IsCalled calls point
        → FitsEvent point.event point.note.kind (apply_length d.max point.note (lengths_seen (map_by calls d.max (take i d.points)))).1
        → FitsEvent point.event point.note.kind (unread (applied d.max (map_by calls d.max (take i d.points)) point.event (calls point.actor point.number)).1)
    by i point (inl e) is h = reaped point.event point.note.kind _ e
    by i point (inr other) (inl e) h = reaped point.event point.note.kind _ e
    by i point (inr other) (inr c) h =
        subst (FitsEvent point.event point.note.kind)
        (sym (ap (λ o. unread (applied d.max (now i) point.event o).1) c.1
        ∙ ap (λ (r : Objects × Reply). unread r.1) (call_applied d.max (now i) point.event c.0 other)
        ∙ (call_same d.max (now i) c.0).replies
        ∙ ap (λ n. (apply_length d.max n (lengths_seen (now i))).1) c.2)) h

    replied_at : ℕ → Point → Reply
    replied_at i point = (applied d.max (map_by calls d.max (take i d.points)) point.event (calls point.actor point.number)).1

    replies : (i : ℕ) (point : Point) → slice_get d.points i ≡ Some point → FitsEvent point.event point.note.kind (unread (replied_at i point))
    replies i point e =
        by i point (reap_or_not point.event) (at_all (IsCalled calls) d.points i point called e)
        (subst (λ l. FitsEvent point.event point.note.kind (apply_length d.max point.note l).1) (sym (replayed_from calls d.max (take i d.points) [] (All-take (IsCalled calls) i d.points called)))
        (fits_there d.max [] d.points (lengths_of d) i point sound.history e))
