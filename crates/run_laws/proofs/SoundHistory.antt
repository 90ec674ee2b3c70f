-- What replaying the points says: of a reply, of the last change of an object, of one more point.
use Rattle.std.proofs.Common.{◌≡◌, ◌⊎◌, ℕ, zero, suc, ◌+◌, ◌<◌, nat_lt, Bool, true, false, cond, ◌&&◌, List, [], ◌∷◌, ◌++◌, length, take, fold, slice_get, Option, None, Some, IfSome, Contains, bytes_eq, refl, sym, ap, subst, ◌∙◌, inl, inr, arith}
use Rattle.std.proofs.lemmas.Bool.{true≢false, cond_both, cond-true, cond-false, and_cases}
use Rattle.std.proofs.lemmas.Option.{same_Some, none-some}
use Rattle.std.proofs.lemmas.Slice.Eq.{bytes_eq-Decides}
use Rattle.std.specs.List.{enumerate_from}
use Rattle.store_map.specs.declared.reply.Reply.{Reply}
use Rattle.store_map.specs.declared.reply.Reply.TheVariants as reply
use Rattle.store_core.specs.Note.{Note, Kind, refusal_of_size, refusal_by, refusal}
use Rattle.store_core.specs.Directory.{Event, Point}
use Rattle.store_core.specs.Lookups.{is_ok, is_change}
use Rattle.store_core.specs.Lengths.{Lengths, length_in, put_length, delete_length, reply_by, lengths_by, found_length, answered_by, apply_length}
use Rattle.store_core.specs.Replay.{FitsEvent, after_event, Replays}
use Rattle.run_laws.proofs.SoundLists.{at_contains}

-- ---- names
-- equal names
pub same_name : (name other : List ℕ) → bytes_eq name other ≡ true → name ≡ other
same_name name other e = (bytes_eq-Decides name other).0 e

-- a name equals itself
pub self_name : (name : List ℕ) → bytes_eq name name ≡ true
self_name name = (bytes_eq-Decides name name).1 refl

-- ---- the reply to a call, by the length that is found
-- the reply, where a call may be refused
abbrev pub reply_unless : Kind → ℕ → Option Reply → Reply
reply_unless kind length (Some refused) = refused
reply_unless kind length None = reply_by kind length

-- the lengths then
abbrev pub lengths_unless : Kind → Note → Lengths → Option Reply → Lengths
lengths_unless kind note lengths (Some refused) = lengths
lengths_unless kind note lengths None = lengths_by kind note (found_length (length_in note.name lengths)) lengths

-- the reply to a call by its note
abbrev pub reply_to : ℕ → Note → Option ℕ → Reply
reply_to most note found = reply_unless note.kind (found_length found) (refusal most note found)

-- it is the one that the map gives
pub replied : (most : ℕ) (note : Note) (lengths : Lengths) → (apply_length most note lengths).1 ≡ reply_to most note (length_in note.name lengths)
replied most note lengths = by (refusal most note (length_in note.name lengths))
  where
    by : (refused : Option Reply) → (answered_by note lengths refused).1 ≡ reply_unless note.kind (found_length (length_in note.name lengths)) refused
    by None = refl
    by (Some refused) = refl

-- and so are the lengths
pub applied : (most : ℕ) (note : Note) (lengths : Lengths) → (apply_length most note lengths).0 ≡ lengths_unless note.kind note lengths (refusal most note (length_in note.name lengths))
applied most note lengths = by (refusal most note (length_in note.name lengths))
  where
    by : (refused : Option Reply) → (answered_by note lengths refused).0 ≡ lengths_unless note.kind note lengths refused
    by None = refl
    by (Some refused) = refl

-- the reply depends on the object's length alone
pub same_reply : (most : ℕ) (note : Note) (lengths others : Lengths) → length_in note.name lengths ≡ length_in note.name others → (apply_length most note lengths).1 ≡ (apply_length most note others).1
same_reply most note lengths others e = replied most note lengths ∙ ap (reply_to most note) e ∙ sym (replied most note others)

-- the reply to a put doesn't depend on it
put_reply : (most : ℕ) (kind : Kind) (offset n a b : ℕ) (found other : Option ℕ) → kind ≡ Kind.Put → reply_unless kind a (refusal_by most kind offset n found) ≡ reply_unless kind b (refusal_by most kind offset n other)
put_reply most kind offset n a b found other e =
    subst (λ k. reply_unless k a (refusal_by most k offset n found) ≡ reply_unless k b (refusal_by most k offset n other)) (sym e) (by (refusal_of_size most n))
  where
    by : (refused : Option Reply) → reply_unless Kind.Put a refused ≡ reply_unless Kind.Put b refused
    by None = refl
    by (Some refused) = refl

-- so a put has one reply at all lengths
pub put_anywhere : (most : ℕ) (note : Note) (lengths others : Lengths) → note.kind ≡ Kind.Put → (apply_length most note lengths).1 ≡ (apply_length most note others).1
put_anywhere most note lengths others e =
    replied most note lengths
    ∙ put_reply most note.kind note.offset note.length (found_length (length_in note.name lengths)) (found_length (length_in note.name others)) (length_in note.name lengths) (length_in note.name others) e
    ∙ sym (replied most note others)

-- what holds of the three refusals holds of each
module _ (P : Reply → Type 0) (nosuch : P reply.NoSuch) (out : P reply.OutRange) (large : P reply.TooLarge) where
  -- of a call whose object would be too large
  size_refused : (most n : ℕ) → IfSome (refusal_of_size most n) P
  size_refused most n = cond_both {A = Option Reply} (nat_lt most n) (Some reply.TooLarge) None (λ o. IfSome o P) (λ _. large) (λ _. tt)

  -- of any call
  pub refused_has : (most : ℕ) (kind : Kind) (offset n : ℕ) (found : Option ℕ) → IfSome (refusal_by most kind offset n found) P
  refused_has most Kind.Put offset n found = size_refused most n
  refused_has most Kind.Write offset n None = nosuch
  refused_has most Kind.Write offset n (Some length) =
      cond_both {A = Option Reply} (nat_lt length offset) (Some reply.OutRange) (refusal_of_size most (offset + n)) (λ o. IfSome o P) (λ _. out) (λ _. size_refused most (offset + n))
  refused_has most Kind.ReadAt offset n None = nosuch
  refused_has most Kind.ReadAt offset n (Some length) =
      cond_both {A = Option Reply} (nat_lt length offset) (Some reply.OutRange) None (λ o. IfSome o P) (λ _. out) (λ _. tt)
  refused_has most Kind.Get offset n None = nosuch
  refused_has most Kind.Get offset n (Some length) = tt
  refused_has most Kind.Stat offset n None = nosuch
  refused_has most Kind.Stat offset n (Some length) = tt
  refused_has most Kind.Delete offset n None = nosuch
  refused_has most Kind.Delete offset n (Some length) = tt
  refused_has most Kind.Rebuild offset n None = nosuch
  refused_has most Kind.Rebuild offset n (Some length) = tt

-- no refusal is ok
pub refused_is_not_ok : (most : ℕ) (kind : Kind) (offset n : ℕ) (found : Option ℕ) → IfSome (refusal_by most kind offset n found) (λ r. is_ok r ≡ false)
refused_is_not_ok = refused_has (λ r. is_ok r ≡ false) refl refl refl

-- a reply without bytes
abbrev pub HasNoBytes : Reply → Type 0
HasNoBytes (reply.Bytes bytes) = ⊥
HasNoBytes _ = Unit {0}

-- none has bytes
pub refused_has_no_bytes : (most : ℕ) (kind : Kind) (offset n : ℕ) (found : Option ℕ) → IfSome (refusal_by most kind offset n found) HasNoBytes
refused_has_no_bytes = refused_has HasNoBytes tt tt tt

-- a reply without bytes fits the event that it is answered
pub fits_answer : (given : Reply) (kind : Kind) (answer : Reply) → HasNoBytes given → answer ≡ given → FitsEvent (Event.Answer given) kind answer
fits_answer (reply.Bytes bytes) kind answer none e = none
fits_answer _ kind answer none e = e

-- what fits such an event is its reply
pub answer_fits : (given : Reply) (kind : Kind) (answer : Reply) → FitsEvent (Event.Answer given) kind answer → answer ≡ given
answer_fits (reply.Bytes bytes) kind answer h = absurd h
answer_fits _ kind answer h = h

-- a call that is replied ok isn't refused
pub ok_accepted : (most : ℕ) (note : Note) (found : Option ℕ) → reply_to most note found ≡ reply.Done → refusal most note found ≡ None
ok_accepted most note found e = by (refusal most note found) (refused_is_not_ok most note.kind note.offset note.length found) e
  where
    by : (refused : Option Reply) → IfSome refused (λ r. is_ok r ≡ false) → reply_unless note.kind (found_length found) refused ≡ reply.Done → refused ≡ None
    by None h done = refl
    by (Some r) h done = absurd (true≢false (sym (ap is_ok done) ∙ h))

-- ---- what a call leaves as it was
-- a length that is put leaves those of other names
put_other : (name other : List ℕ) (n : ℕ) (lengths : Lengths) → bytes_eq name other ≡ false → length_in name (put_length other n lengths) ≡ length_in name lengths
put_other name other n [] apart = cond-false (bytes_eq name other) (Some n) None apart
put_other name other n (entry ∷ entries) apart = by (put_other name other n entries apart) (bytes_eq other entry.0) refl
  where
    by : length_in name (put_length other n entries) ≡ length_in name entries → (b : Bool) → bytes_eq other entry.0 ≡ b
        → length_in name (cond {A = Lengths} b ((entry.0, n) ∷ entries) (entry ∷ put_length other n entries)) ≡ length_in name (entry ∷ entries)
    by rest true same =
        let far : bytes_eq name entry.0 ≡ false = sym (ap (bytes_eq name) (same_name other entry.0 same)) ∙ apart in
        cond-false (bytes_eq name entry.0) (Some n) (length_in name entries) far ∙ sym (cond-false (bytes_eq name entry.0) (Some entry.1) (length_in name entries) far)
    by rest false same = ap (λ o. cond {A = Option ℕ} (bytes_eq name entry.0) (Some entry.1) o) rest

-- so does one that is deleted
delete_other : (name other : List ℕ) (lengths : Lengths) → bytes_eq name other ≡ false → length_in name (delete_length other lengths) ≡ length_in name lengths
delete_other name other [] apart = refl
delete_other name other (entry ∷ entries) apart = by (delete_other name other entries apart) (bytes_eq other entry.0) refl
  where
    by : length_in name (delete_length other entries) ≡ length_in name entries → (b : Bool) → bytes_eq other entry.0 ≡ b
        → length_in name (cond {A = Lengths} b entries (entry ∷ delete_length other entries)) ≡ length_in name (entry ∷ entries)
    by rest true same =
        let far : bytes_eq name entry.0 ≡ false = sym (ap (bytes_eq name) (same_name other entry.0 same)) ∙ apart in
        sym (cond-false (bytes_eq name entry.0) (Some entry.1) (length_in name entries) far)
    by rest false same = ap (λ o. cond {A = Option ℕ} (bytes_eq name entry.0) (Some entry.1) o) rest

-- a call leaves the lengths of other names
other_stays : (kind : Kind) (name : List ℕ) (note : Note) (lengths : Lengths) (refused : Option Reply) → bytes_eq name note.name ≡ false → length_in name (lengths_unless kind note lengths refused) ≡ length_in name lengths
other_stays kind name note lengths (Some refused) apart = refl
other_stays Kind.Put name note lengths None apart = put_other name note.name note.length lengths apart
other_stays Kind.Write name note lengths None apart = put_other name note.name _ lengths apart
other_stays Kind.Delete name note lengths None apart = delete_other name note.name lengths apart
other_stays _ name note lengths None apart = refl

-- a reply that isn't ok leaves all lengths
not_ok_stays : (kind : Kind) (note : Note) (lengths : Lengths) (n : ℕ) (refused : Option Reply) → is_ok (reply_unless kind n refused) ≡ false → lengths_unless kind note lengths refused ≡ lengths
not_ok_stays kind note lengths n (Some refused) h = refl
not_ok_stays Kind.Put note lengths n None h = absurd (true≢false h)
not_ok_stays Kind.Write note lengths n None h = absurd (true≢false h)
not_ok_stays Kind.Delete note lengths n None h = absurd (true≢false h)
not_ok_stays _ note lengths n None h = refl

-- so does a get or a read
pub pinned_stays : (kind : Kind) (note : Note) (lengths : Lengths) (answer : Reply) (refused : Option Reply) → FitsEvent Event.Pinned kind answer → lengths_unless kind note lengths refused ≡ lengths
pinned_stays kind note lengths answer (Some refused) h = refl
pinned_stays Kind.Get note lengths answer None h = refl
pinned_stays Kind.ReadAt note lengths answer None h = refl
pinned_stays Kind.Stat note lengths answer None h = refl
pinned_stays Kind.Rebuild note lengths answer None h = refl
pinned_stays Kind.Put note lengths answer None h = absurd h
pinned_stays Kind.Write note lengths answer None h = absurd h
pinned_stays Kind.Delete note lengths answer None h = absurd h

-- an answer that isn't ok changes nothing
pub answer_stays : (most : ℕ) (note : Note) (lengths : Lengths) (given : Reply) → (apply_length most note lengths).1 ≡ given → is_ok given ≡ false → (apply_length most note lengths).0 ≡ lengths
answer_stays most note lengths given e bad =
    applied most note lengths
    ∙ not_ok_stays note.kind note lengths (found_length (length_in note.name lengths)) (refusal most note (length_in note.name lengths)) (ap is_ok (sym (replied most note lengths) ∙ e) ∙ bad)

-- a call leaves the lengths of other names
other_applied : (most : ℕ) (name : List ℕ) (note : Note) (lengths : Lengths) → bytes_eq name note.name ≡ false → length_in name (apply_length most note lengths).0 ≡ length_in name lengths
other_applied most name note lengths apart =
    ap (length_in name) (applied most note lengths) ∙ other_stays note.kind name note lengths (refusal most note (length_in note.name lengths)) apart

-- a point that doesn't change an object leaves its length
point_keeps : (most : ℕ) (name : List ℕ) (note : Note) (event : Event) (lengths : Lengths) → (bytes_eq name note.name && is_change event) ≡ false → FitsEvent event note.kind (apply_length most note lengths).1
    → length_in name (after_event event lengths (apply_length most note lengths).0) ≡ length_in name lengths
point_keeps most name note Event.Reaped lengths none h = refl
point_keeps most name note Event.Pinned lengths none h =
    ap (length_in name) (applied most note lengths ∙ pinned_stays note.kind note lengths (apply_length most note lengths).1 (refusal most note (length_in note.name lengths)) h)
point_keeps most name note Event.Done lengths none h = other_applied most name note lengths (by (and_cases _ _ none))
  where
    by : ((bytes_eq name note.name ≡ false) ⊎ (true ≡ false)) → bytes_eq name note.name ≡ false
    by (inl apart) = apart
    by (inr bad) = absurd (true≢false bad)
point_keeps most name note (Event.Answer given) lengths none h = by (and_cases _ _ none)
  where
    by : ((bytes_eq name note.name ≡ false) ⊎ (is_ok given ≡ false)) → length_in name (apply_length most note lengths).0 ≡ length_in name lengths
    by (inl apart) = other_applied most name note lengths apart
    by (inr bad) = ap (length_in name) (answer_stays most note lengths given (answer_fits given note.kind (apply_length most note lengths).1 h) bad)

-- ---- the last change
-- the last change among points that begin at a place
abbrev pub last_from : List ℕ → ℕ → Option ℕ → List Point → Option ℕ
last_from name start found points =
    fold (λ found entry. cond (bytes_eq name entry.1.note.name && is_change entry.1.event) (Some entry.0) found) found (enumerate_from start points)

-- the lengths after points, from some lengths on
abbrev pub lengths_from : ℕ → Lengths → List Point → Lengths
lengths_from most lengths points = fold (λ lengths point. after_event point.event lengths (apply_length most point.note lengths).0) lengths points

-- replaying ends with those lengths
pub replays_end : (most : ℕ) (lengths : Lengths) (points : List Point) (end : Lengths) → Replays most lengths points end → lengths_from most lengths points ≡ end
replays_end most lengths [] end h = h
replays_end most lengths (point ∷ points) end h = replays_end most (after_event point.event lengths (apply_length most point.note lengths).0) points end h.1

-- the object's length after its last change is the one that it has at the end
pub record ChangedLast (most : ℕ) (name : List ℕ) (start : ℕ) (found : Option ℕ) (lengths : Lengths) (points : List Point) (end : Lengths) : Type 0 where
  pub place : ℕ
  pub within : place < length points
  pub last : last_from name start found points ≡ Some (start + place)
  pub same : length_in name (lengths_from most lengths (take (suc place) points)) ≡ length_in name end

-- no point changed the object, or one did last
abbrev pub Last : ℕ → List ℕ → ℕ → Option ℕ → Lengths → List Point → Lengths → Type 0
Last most name start found lengths points end =
    ((last_from name start found points ≡ found) × (length_in name end ≡ length_in name lengths)) ⊎ ChangedLast most name start found lengths points end

-- the same where the first point is looked at
abbrev LastOn : ℕ → List ℕ → ℕ → Option ℕ → Lengths → Point → List Point → Lengths → Option ℕ → Type 0
LastOn most name start found lengths point points end acc =
    ((last_from name (start + 1) acc points ≡ found) × (length_in name end ≡ length_in name lengths))
    ⊎ ((place : ℕ) × (place < suc (length points)) × (last_from name (start + 1) acc points ≡ Some (start + place)) × (length_in name (lengths_from most lengths (take (suc place) (point ∷ points))) ≡ length_in name end))

-- one of the two holds
pub last_of : (most : ℕ) (name : List ℕ) (start : ℕ) (found : Option ℕ) (lengths : Lengths) (points : List Point) (end : Lengths) → Replays most lengths points end → Last most name start found lengths points end
last_of most name start found lengths [] end h = inl (refl, ap (length_in name) (sym h))
last_of most name start found lengths (point ∷ points) end h =
    by (bytes_eq name point.note.name && is_change point.event) refl
    (λ acc. last_of most name (start + 1) acc (after_event point.event lengths (apply_length most point.note lengths).0) points end h.1)
  where
    now : Lengths
    now = after_event point.event lengths (apply_length most point.note lengths).0

    later : (acc : Option ℕ) → ChangedLast most name (start + 1) acc now points end → LastOn most name start found lengths point points end acc
    later acc k =
        let less : k.place < length points = k.within in
        let shifted : start + 1 + k.place ≡ start + suc k.place = omega arith in
        inr (suc k.place, omega (arith, less), k.last ∙ ap Some shifted, k.same)

    hit : Last most name (start + 1) (Some start) now points end → LastOn most name start found lengths point points end (Some start)
    hit (inr k) = later (Some start) k
    hit (inl k) = inr (0, omega arith, k.0 ∙ ap Some (omega arith), sym k.1)

    missed : (bytes_eq name point.note.name && is_change point.event) ≡ false → Last most name (start + 1) found now points end → LastOn most name start found lengths point points end found
    missed none (inr k) = later found k
    missed none (inl k) = inl (k.0, k.1 ∙ point_keeps most name point.note point.event lengths none h.0)

    pack : (acc : Option ℕ) → acc ≡ cond (bytes_eq name point.note.name && is_change point.event) (Some start) found → LastOn most name start found lengths point points end acc → Last most name start found lengths (point ∷ points) end
    pack acc e (inl k) = inl (subst (λ a. last_from name (start + 1) a points ≡ found) e k.0, k.1)
    pack acc e (inr k) = inr (record { place = k.0; within = k.1; last = subst (λ a. last_from name (start + 1) a points ≡ Some (start + k.0)) e k.2; same = k.3 })

    by : (b : Bool) → (bytes_eq name point.note.name && is_change point.event) ≡ b → ((acc : Option ℕ) → Last most name (start + 1) acc now points end) → Last most name start found lengths (point ∷ points) end
    by true e rest = pack (Some start) (sym (cond-true (bytes_eq name point.note.name && is_change point.event) (Some start) found e)) (hit (rest (Some start)))
    by false e rest = pack found (sym (cond-false (bytes_eq name point.note.name && is_change point.event) (Some start) found e)) (missed e (rest found))

-- ---- one more point
-- the last change with one more point
pub last_more : (name : List ℕ) (start : ℕ) (found : Option ℕ) (points : List Point) (point : Point)
    → last_from name start found (points ++ point ∷ []) ≡ cond (bytes_eq name point.note.name && is_change point.event) (Some (start + length points)) (last_from name start found points)
last_more name start found [] point = ap (λ n. cond {A = Option ℕ} (bytes_eq name point.note.name && is_change point.event) (Some n) found) (omega arith)
last_more name start found (first ∷ points) point =
    last_more name (start + 1) (cond (bytes_eq name first.note.name && is_change first.event) (Some start) found) points point
    ∙ ap (λ n. cond {A = Option ℕ} (bytes_eq name point.note.name && is_change point.event) (Some n) (last_from name (start + 1) (cond (bytes_eq name first.note.name && is_change first.event) (Some start) found) points)) shifted
  where
    shifted : start + 1 + length points ≡ start + suc (length points)
    shifted = omega arith

-- replaying goes on with one more point
pub replays_more : (most : ℕ) (lengths : Lengths) (points : List Point) (end : Lengths) (point : Point) (last : Lengths) → Replays most lengths points end
    → FitsEvent point.event point.note.kind (apply_length most point.note end).1 → after_event point.event end (apply_length most point.note end).0 ≡ last → Replays most lengths (points ++ point ∷ []) last
replays_more most lengths [] end point last same marked moved =
    subst (λ l. FitsEvent point.event point.note.kind (apply_length most point.note l).1 × (after_event point.event l (apply_length most point.note l).0 ≡ last)) (sym same) (marked, moved)
replays_more most lengths (first ∷ points) end point last replays marked moved =
    (replays.0, replays_more most (after_event first.event lengths (apply_length most first.note lengths).0) points end point last replays.1 marked moved)

-- each point keeps its event
event_at : (most : ℕ) (lengths : Lengths) (points : List Point) (end : Lengths) (i : ℕ) (point : Point) → Replays most lengths points end → slice_get points i ≡ Some point
    → (answer : Reply) × FitsEvent point.event point.note.kind answer
event_at most lengths [] end i point replays e = absurd (none-some point e)
event_at most lengths (first ∷ points) end zero point replays e =
    subst (λ (p : Point). (answer : Reply) × FitsEvent p.event p.note.kind answer) (same_Some first point e) ((apply_length most first.note lengths).1, replays.0)
event_at most lengths (first ∷ points) end (suc i) point replays e =
    event_at most (after_event first.event lengths (apply_length most first.note lengths).0) points end i point replays.1 e

-- each point's event is one that a reply has
pub marked_of : (most : ℕ) (lengths : Lengths) (points : List Point) (end : Lengths) (point : Point) → Replays most lengths points end → Contains points point
    → (answer : Reply) × FitsEvent point.event point.note.kind answer
marked_of most lengths points end point replays c = event_at most lengths points end (at_contains points point c).0 point replays (at_contains points point c).1
