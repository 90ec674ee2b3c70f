-- The history's lines up to a place, with the bytes of the calls before it taken.
use Rattle.std.proofs.Common.{◌≡◌, ◌⊎◌, inl, inr, ℕ, ◌+◌, ◌<◌, ◌≤◌, zero, suc, Bool, true, false, List, [], ◌∷◌, ◌++◌, length, map, take, Option, None, Some, refl, sym, ap, subst, ◌∙◌, arith, append_assoc, add-zero, zero-add}
use Rattle.std.specs.Prelude.{option_map, option_and_then, fold}
use Rattle.std.specs.List.{slice_get}
use Rattle.std.proofs.lemmas.List.{append-nil, take_more, length-take-le}
use Rattle.std.proofs.lemmas.Option.{slice_get-map, slice_get_within, get_or_from_slice_get}
use Rattle.store_map.specs.PlainMap.{Objects}
use Rattle.store_map.specs.declared.actor.Actor.{Actor}
use Rattle.store_map.specs.declared.actor.Actor.TheVariants as actor
use Rattle.store_map.specs.declared.reply.Reply.{Reply}
use Rattle.store_map.specs.declared.reply.Reply.TheVariants as reply
use Rattle.store_map.specs.declared.shown.Shown.TheVariants as shown
use Rattle.store_map.specs.declared.line.HLine.{HLine}
use Rattle.store_core.specs.Act.{Outcome as CoreOutcome}
use Rattle.store_core.specs.Calls.{Calls}
use Rattle.store_core.specs.Directory.{Event, Point}
use Rattle.store_core.specs.History.{applied, is_answered, is_answer, shown_at, client_call, line_of, history_from}
use Rattle.run_laws.specs.MapAfter.{map_by}
use Rattle.call_steps.specs.declared.outcome.CallOutcome.{CallOutcome}
use Rattle.call_steps.specs.declared.outcome.CallOutcome.TheVariants as ended
use Rattle.call_steps.specs.declared.outcomes.Outcome.{Outcome}
use Rattle.call_steps.specs.declared.outcomes.Outcome.TheVariants as outcome
use Rattle.call_steps.specs.declared.outcomes.RepairOutcome.{RepairOutcome}
use Rattle.call_steps.specs.declared.outcomes.RepairOutcome.TheVariants as repair
use Rattle.call_steps.specs.Outcomes.{outcome_of, repair_outcome_of}
use Rattle.call_steps.specs.CallOutcomes.{call_outcome_of}
use Rattle.call_steps.specs.declared.caller_calls.EndedCall.{EndedCall}
use Rattle.call_steps.specs.declared.caller_calls.CallerCalls.{CallerCalls}
use Rattle.call_steps.specs.CallerCalls.{ended_of, calling_at}
use Rattle.world_lines.specs.Lists.{answered_by}
use Rattle.world_laws.specs.Served.{bytes_in, bytes_of_client, ended_at, outcome_in, served_in, outcome_at, bytes_at, bytes_of, is_reply, answered_at, ServedAre}
use Rattle.world_lines.specs.Taken.{shown_by, KeepsCall}

-- ---- one point more
module _ (max : ℕ) (calls : Calls) (answered : Actor → ℕ → Bool) where
  -- what a point shows over the map there
  abbrev line_at : ℕ → Objects → Point → List HLine
  line_at place objects point =
      line_of place (client_call point.actor point.number) (shown_at point.event (answered point.actor point.number) (applied max objects point.event (calls point.actor point.number)).1)

  -- the map after some points
  abbrev map_from : Objects → List Point → Objects
  map_from objects points = fold (λ objects point. (applied max objects point.event (calls point.actor point.number)).0) objects points

  history_more : (points : List Point) (point : Point) (place : ℕ) (objects : Objects)
      → history_from max calls answered place objects (points ++ point ∷ []) ≡ history_from max calls answered place objects points ++ line_at (place + length points) (map_from objects points) point
  history_more [] point place objects = append-nil (line_at place objects point) ∙ ap (λ n. line_at n objects point) (sym (add-zero place))
  history_more (first ∷ points) point place objects =
      let after : Objects = (applied max objects first.event (calls first.actor first.number)).0 in
      let e : place + 1 + length points ≡ place + length (first ∷ points) = omega arith in
      ap (λ l. line_at place objects first ++ l)
      (history_more points point (place + 1) after ∙ ap (λ n. history_from max calls answered (place + 1) after points ++ line_at n (map_from after points) point) e)
      ∙ sym (append_assoc (line_at place objects first) (history_from max calls answered (place + 1) after points) (line_at (place + length (first ∷ points)) (map_from after points) point))

  -- the next point of a list
  pub history_next : (points : List Point) (place : ℕ) (point : Point) → slice_get points place ≡ Some point
      → history_from max calls answered 0 [] (take (place + 1) points) ≡ history_from max calls answered 0 [] (take place points) ++ line_at place (map_by calls max (take place points)) point
  history_next points place point found =
      let below : place < length points = slice_get_within points place point found in
      let taken : take (place + 1) points ≡ take place points ++ point ∷ [] =
      take_more points place point below ∙ ap (λ p. take place points ++ p ∷ []) (get_or_from_slice_get points place point point found) in
      let count : 0 + length (take place points) ≡ place = zero-add _ ∙ length-take-le place points (omega arith) in
      ap (history_from max calls answered 0 []) taken
      ∙ history_more (take place points) point 0 []
      ∙ ap (λ n. history_from max calls answered 0 [] (take place points) ++ line_at n (map_by calls max (take place points)) point) count

-- ---- outcomes and bytes
-- an outcome without a reply of bytes has none
Matches : Option CoreOutcome → Option (List ℕ) → Type 0
Matches (Some (CoreOutcome.Served point)) served = (bytes : List ℕ) × (served ≡ Some bytes)
Matches other served = served ≡ None

client_matches : (o : Outcome) → Matches (Some (outcome_of o)) (bytes_of_client o)
unfolding Matches
client_matches (outcome.Served point bytes) = (bytes.items, refl)
client_matches other = refl

rebuild_matches : (o : RepairOutcome) → Matches (Some (repair_outcome_of o)) None
unfolding Matches
rebuild_matches repair.Rebuilt = refl
rebuild_matches repair.Here = refl
rebuild_matches (repair.Away downs) = refl
rebuild_matches repair.NoSuch = refl
rebuild_matches (repair.Superseded newer) = refl
rebuild_matches (repair.Unavailable stripe missing) = refl
rebuild_matches (repair.Reaped at) = refl
rebuild_matches repair.NoMemory = refl

outcome_matches : (o : CallOutcome) → Matches (Some (call_outcome_of o)) (bytes_in o)
outcome_matches (ended.Client o) = client_matches o
outcome_matches (ended.Rebuild o) = rebuild_matches o

call_matches : (found : Option EndedCall) → Matches (outcome_in found) (served_in found)
unfolding Matches
call_matches None = refl
call_matches (Some ended) = outcome_matches ended.outcome

-- bytes stand in an outcome that has some
served_at : (o : Option CoreOutcome) (served : Option (List ℕ)) (bytes : List ℕ) → Matches o served → served ≡ Some bytes → (point : ℕ) × (o ≡ Some (CoreOutcome.Served point))
unfolding Matches
served_at (Some (CoreOutcome.Served point)) served bytes m e = (point, refl)
served_at other served bytes m e = cc

-- ---- whether a call was answered
reply_same : (servers : ℕ) (clients : List CallerCalls) (i n : ℕ)
    → is_answer (option_and_then (λ calling. slice_get calling.ended n) (slice_get (map (calling_at servers) clients) i)) ≡ is_reply (outcome_at clients i n)
reply_same servers clients i n =
    ap (λ found. is_answer (option_and_then (λ calling. slice_get calling.ended n) found)) (slice_get-map (calling_at servers) clients i) ∙ by_client (slice_get clients i)
  where
    by_call : (found : Option EndedCall) → is_answer (option_map (ended_of servers) found) ≡ is_reply (outcome_in found)
    by_call None = refl
    by_call (Some ended) = refl

    by_client : (found : Option CallerCalls) → is_answer (option_and_then (λ calling. slice_get calling.ended n) (option_map (calling_at servers) found))
        ≡ is_reply (outcome_in (option_and_then (λ calls. slice_get calls.ended.items n) found))
    by_client None = refl
    by_client (Some calls) = ap is_answer (slice_get-map (ended_of servers) calls.ended.items n) ∙ by_call (slice_get calls.ended.items n)

-- ---- what a point shows
done_same : (answered : Bool) (served : Option (List ℕ)) (mapped : Reply) → shown_by Event.Done answered served ≡ shown_at Event.Done answered mapped
done_same true served mapped = refl
done_same false served mapped = refl

-- a commit of a call that was answered
pub done_shown : (answered : Bool) (served : Option (List ℕ)) → true ≡ answered → Some (shown.Reply reply.Done) ≡ shown_by Event.Done answered served
done_shown answered served e = ap (λ b. shown_by Event.Done b served) e

-- and of one that wasn't
pub unfinished_shown : (answered : Bool) (served : Option (List ℕ)) → false ≡ answered → Some shown.Unfinished ≡ shown_by Event.Done answered served
unfinished_shown answered served e = ap (λ b. shown_by Event.Done b served) e

-- a pinned point of a client's call
pinned_same : (o : Option CoreOutcome) (before now : Option (List ℕ)) (place : ℕ) (mapped : Reply) → Matches o before → Matches o now
    → (now ≡ before) ⊎ ((p : ℕ) × (o ≡ Some (CoreOutcome.Served p)) × (p < place))
    → ((ended : CoreOutcome) → o ≡ Some ended → is_answered ended ≡ true → ended ≡ CoreOutcome.Served place)
    → ((bytes : List ℕ) → o ≡ Some (CoreOutcome.Served place) → before ≡ Some bytes → mapped ≡ reply.Bytes bytes)
    → option_map (λ bytes. shown.Reply (reply.Bytes bytes)) now ≡ shown_at Event.Pinned (is_reply o) mapped
unfolding Matches
pinned_same None before now place mapped m n kept pins owed = ap (option_map (λ bytes. shown.Reply (reply.Bytes bytes))) n
pinned_same (Some (CoreOutcome.Served p)) before now place mapped m n kept pins owed =
    let here : CoreOutcome.Served p ≡ CoreOutcome.Served place = pins (CoreOutcome.Served p) refl refl in
    let bytes : List ℕ = m.0 in
    let owes : mapped ≡ reply.Bytes bytes = owed bytes (ap Some here) m.1 in
    elim kept [
      | inl same ↦ ap (option_map (λ bytes. shown.Reply (reply.Bytes bytes))) (same ∙ m.1) ∙ ap (λ r. Some (shown.Reply r)) (sym owes)
      | inr earlier ↦
          let is : p ≡ earlier.0 = cc (earlier.1) in
          let at : p ≡ place = cc in
          let less : earlier.0 < place = earlier.2 in
          absurd (omega arith)
    ]
pinned_same (Some (CoreOutcome.Answered point given)) before now place mapped m n kept pins owed =
    let never : CoreOutcome.Answered point given ≡ CoreOutcome.Served place = pins (CoreOutcome.Answered point given) refl refl in cc
pinned_same other before now place mapped m n kept pins owed = ap (option_map (λ bytes. shown.Reply (reply.Bytes bytes))) n

-- the lines up to a place; the calls ended as at first, and have the bytes that they had then but for those that were served before the place
pub record SoFar (max : ℕ) (calls : Calls) (servers : ℕ) (points : List Point) (first now : List CallerCalls) (place : ℕ) (lines : List HLine) : Type 0 where
  pub so_far : lines ≡ history_from max calls (answered_by (map (calling_at servers) first)) 0 [] (take place points)
  pub outcomes : (i n : ℕ) → outcome_at now i n ≡ outcome_at first i n
  pub bytes : (i n : ℕ) → (bytes_at now i n ≡ bytes_at first i n) ⊎ ((p : ℕ) × (outcome_at first i n ≡ Some (CoreOutcome.Served p)) × (p < place))

-- none
pub none_so_far : (max : ℕ) (calls : Calls) (servers : ℕ) (points : List Point) (first : List CallerCalls) → SoFar max calls servers points first first 0 []
none_so_far max calls servers points first = record { so_far = refl; outcomes = λ i n. refl; bytes = λ i n. inl refl }

module _ (max : ℕ) (calls : Calls) (servers : ℕ) (points : List Point) (first : List CallerCalls) (served : ServedAre max calls points first)
    (place : ℕ) (point : Point) (found : slice_get points place ≡ Some point) (now : List CallerCalls) (lines : List HLine)
    (so : SoFar max calls servers points first now place lines) where
  answered : Actor → ℕ → Bool
  answered = answered_by (map (calling_at servers) first)

  mapped : Reply
  mapped = (applied max (map_by calls max (take place points)) point.event (calls point.actor point.number)).1

  answered_same : (who : Actor) (n : ℕ) → answered_at now who n ≡ answered_by (map (calling_at servers) first) who n
  answered_same (actor.Client i) n = ap is_reply (so.outcomes i n) ∙ sym (reply_same servers first i n)
  answered_same (actor.Repairer i) n = refl
  answered_same actor.Sweeper n = refl
  answered_same actor.Operator n = refl

  by_actor : (who : Actor) → point.actor ≡ who → point.event ≡ Event.Pinned
      → option_map (λ bytes. shown.Reply (reply.Bytes bytes)) (bytes_of now who point.number)
      ≡ shown_at Event.Pinned (answered_by (map (calling_at servers) first) who point.number) (applied max (map_by calls max (take place points)) Event.Pinned (calls who point.number)).1
  by_actor (actor.Client i) is pinned =
      let n : ℕ = point.number in
      pinned_same (outcome_at first i n) (bytes_at first i n) (bytes_at now i n) place (applied max (map_by calls max (take place points)) Event.Pinned (calls (actor.Client i) n)).1
      (call_matches (ended_at first i n)) (subst (λ o. Matches o (bytes_at now i n)) (so.outcomes i n) (call_matches (ended_at now i n))) (so.bytes i n)
      (λ ended e replied. served.pins place i point ended found is pinned e replied) (λ bytes e had. served.owed place i n bytes e had)
      ∙ ap (λ b. shown_at Event.Pinned b (applied max (map_by calls max (take place points)) Event.Pinned (calls (actor.Client i) n)).1) (sym (reply_same servers first i n))
  by_actor (actor.Repairer i) is pinned = refl
  by_actor actor.Sweeper is pinned = refl
  by_actor actor.Operator is pinned = refl

  by_event : (event : Event) → point.event ≡ event
      → shown_by event (answered_at now point.actor point.number) (bytes_of now point.actor point.number)
      ≡ shown_at event (answered_by (map (calling_at servers) first) point.actor point.number) (applied max (map_by calls max (take place points)) event (calls point.actor point.number)).1
  by_event (Event.Answer given) is = refl
  by_event Event.Pinned is = by_actor point.actor refl is
  by_event Event.Done is =
      ap (λ b. shown_by Event.Done b (bytes_of now point.actor point.number)) (answered_same point.actor point.number)
      ∙ done_same (answered_by (map (calling_at servers) first) point.actor point.number) _ _
  by_event Event.Reaped is = refl

  -- the calls after the point's bytes were taken
  module _ (next : List CallerCalls) (kept : (i n : ℕ) → KeepsCall ((point.actor ≡ actor.Client i) × (n ≡ point.number) × (point.event ≡ Event.Pinned)) (ended_at now i n) (ended_at next i n)) where
    still : (i n : ℕ) → (bytes_at now i n ≡ bytes_at first i n) ⊎ ((p : ℕ) × (outcome_at first i n ≡ Some (CoreOutcome.Served p)) × (p < place))
        → (bytes_at now i n ≡ bytes_at first i n) ⊎ ((p : ℕ) × (outcome_at first i n ≡ Some (CoreOutcome.Served p)) × (p < place + 1))
    still i n (inl same) = inl same
    still i n (inr earlier) = let less : earlier.0 < place = earlier.2 in inr (earlier.0, earlier.1, omega arith)

    taken : (i n : ℕ) → (point.actor ≡ actor.Client i) × (n ≡ point.number) × (point.event ≡ Event.Pinned) → (bytes : List ℕ) → bytes_at now i n ≡ Some bytes
        → (p : ℕ) × (outcome_at first i n ≡ Some (CoreOutcome.Served p)) × (p < place + 1)
    taken i n it bytes had =
        let was : (p : ℕ) × (outcome_at now i n ≡ Some (CoreOutcome.Served p)) = served_at (outcome_at now i n) (bytes_at now i n) bytes (call_matches (ended_at now i n)) had in
        let first_was : outcome_at first i n ≡ Some (CoreOutcome.Served was.0) = sym (so.outcomes i n) ∙ was.1 in
        let here : CoreOutcome.Served was.0 ≡ CoreOutcome.Served place =
        served.pins place i point (CoreOutcome.Served was.0) found it.0 it.2 (subst (λ m. outcome_at first i m ≡ Some (CoreOutcome.Served was.0)) it.1 first_was) refl in
        (place, first_was ∙ ap Some here, omega arith)

    pub next_so_far : (lines' : List HLine)
        → lines' ≡ lines ++ line_of place (client_call point.actor point.number) (shown_by point.event (answered_at now point.actor point.number) (bytes_of now point.actor point.number))
        → SoFar max calls servers points first next (place + 1) lines'
    next_so_far lines' one =
        record {
          so_far =
              one
              ∙ ap (λ s. lines ++ line_of place (client_call point.actor point.number) s) (by_event point.event refl)
              ∙ ap (λ l. l ++ line_of place (client_call point.actor point.number) (shown_at point.event (answered_by (map (calling_at servers) first) point.actor point.number) (applied max (map_by calls max (take place points)) point.event (calls point.actor point.number)).1)) so.so_far
              ∙ sym (history_next max calls (answered_by (map (calling_at servers) first)) points place point found);
          outcomes = λ i n. (kept i n).outcome ∙ so.outcomes i n;
          bytes = λ i n.
              elim (kept i n).bytes [
                | inl same ↦
                    elim (still i n (so.bytes i n)) [
                      | inl e ↦ inl (same ∙ e)
                      | inr earlier ↦ inr earlier
                    ]
                | inr had ↦ inr (taken i n had.0 had.1.0 had.1.1)
              ];
        }

-- the same by what is told of the point
pub told_so_far : (max : ℕ) (calls : Calls) (servers : ℕ) (points : List Point) (first : List CallerCalls) → ServedAre max calls points first
    → (place : ℕ) (told : Actor × ℕ × Event) → Some told ≡ option_map (λ point. (point.actor, point.number, point.event)) (slice_get points place)
    → (now next : List CallerCalls) → ((i n : ℕ) → KeepsCall ((told.0 ≡ actor.Client i) × (n ≡ told.1) × (told.2 ≡ Event.Pinned)) (ended_at now i n) (ended_at next i n))
    → (lines lines' : List HLine) → lines' ≡ lines ++ line_of place (client_call told.0 told.1) (shown_by told.2 (answered_at now told.0 told.1) (bytes_of now told.0 told.1))
    → SoFar max calls servers points first now place lines → SoFar max calls servers points first next (place + 1) lines'
told_so_far max calls servers points first served place told is now next kept lines lines' one so = by_point (slice_get points place) refl is
  where
    by_point : (found : Option Point) → slice_get points place ≡ found → Some told ≡ option_map (λ point. (point.actor, point.number, point.event)) found
        → SoFar max calls servers points first next (place + 1) lines'
    by_point None e h = cc
    by_point (Some point) e h =
        let same : told ≡ (point.actor, point.number, point.event) = cc in
        let Kept : Actor × ℕ × Event → Type 0 = λ t. (i n : ℕ) → KeepsCall ((t.0 ≡ actor.Client i) × (n ≡ t.1) × (t.2 ≡ Event.Pinned)) (ended_at now i n) (ended_at next i n) in
        let One : Actor × ℕ × Event → Type 0 = λ t. lines' ≡ lines ++ line_of place (client_call t.0 t.1) (shown_by t.2 (answered_at now t.0 t.1) (bytes_of now t.0 t.1)) in
        next_so_far max calls servers points first served place point e now lines so next (subst Kept same kept) lines' (subst One same one)

-- at the end they are those of all points
pub all_so_far : (max : ℕ) (calls : Calls) (servers : ℕ) (points : List Point) (first now : List CallerCalls) (place : ℕ) (lines : List HLine) → length points ≤ place
    → SoFar max calls servers points first now place lines → lines ≡ history_from max calls (answered_by (map (calling_at servers) first)) 0 [] points
all_so_far max calls servers points first now place lines past so =
    so.so_far ∙ ap (history_from max calls (answered_by (map (calling_at servers) first)) 0 []) (take_all points place past)
  where
    take_all : {A : Type 0} (xs : List A) (n : ℕ) → length xs ≤ n → take n xs ≡ xs
    take_all [] zero h = refl
    take_all [] (suc n) h = refl
    take_all (x ∷ xs) zero h = absurd (omega arith)
    take_all (x ∷ xs) (suc n) h = ap (λ l. x ∷ l) (take_all xs n (omega arith))
