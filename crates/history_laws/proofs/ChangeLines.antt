-- A change of an object has its line in the history.
use Rattle.std.proofs.Common.{◌≡◌, ℕ, zero, suc, ◌+◌, Bool, true, false, ◌&&◌, ◌||◌, nat_eq, bytes_eq, List, [], ◌∷◌, ◌++◌, Contains, Option, None, Some, IfSome, ◌⊎◌, inl, inr, refl, sym, ap, subst, ◌∙◌, arith, true≢false}
use Rattle.std.proofs.lemmas.Bool.{eq-eqb}
use Rattle.std.proofs.lemmas.Option.{none-some, same_Some}
use Rattle.std.proofs.lemmas.List.Elements.{Contains-append_right}
use Rattle.std.specs.List.{slice_get, list_any}
use Rattle.std.specs.Option.{option_map_or}
use Rattle.store_map.specs.Limits.{size_of}
use Rattle.store_map.specs.PlainMap.{Objects}
use Rattle.store_map.specs.declared.actor.Actor.{Actor}
use Rattle.store_map.specs.declared.actor.Actor.TheVariants as actor
use Rattle.store_map.specs.declared.call.Call.{Call}
use Rattle.store_map.specs.declared.call.Call.TheVariants as call
use Rattle.store_map.specs.declared.reply.Reply.{Reply}
use Rattle.store_map.specs.declared.reply.Reply.TheVariants as reply
use Rattle.store_map.specs.declared.script.Script.{Script}
use Rattle.store_map.specs.declared.call_name.ClientCall.{ClientCall}
use Rattle.store_map.specs.declared.shown.Shown.{Shown}
use Rattle.store_map.specs.declared.line.HLine.{HLine}
use Rattle.hist_rules.specs.Calls.{call_of as script_call}
use Rattle.hist_rules.specs.Named.{is_effect, changes_name, is_change_line, is_change_point}
use Rattle.store_core.specs.Core.{Core}
use Rattle.store_core.specs.Directory.{Event, Point}
use Rattle.store_core.specs.History.{call_of, answered_in, applied, shown_at, client_call, line_of, history_from, history_of}
use Rattle.store_core.specs.Lengths.{Lengths, length_in, found_length, reply_by, apply_length}
use Rattle.store_core.specs.Lookups.{is_ok, is_change}
use Rattle.store_core.specs.Note.{Note, Kind, note_of, refusal}
use Rattle.store_core.specs.Replay.{FitsEvent, after_event, Replays}
use Rattle.store_core.specs.RowLines.{client}
use Rattle.store_core.specs.Shown.{shown}
use Rattle.store_core.specs.Sound.{IsSound, lengths_of}
use Rattle.history_laws.proofs.Points.{IsOfCall}
use Rattle.history_laws.proofs.Changes.{IsChange}
use Rattle.run_laws.proofs.SoundHistory.{reply_unless, replied, refused_is_not_ok}
use Rattle.run_laws.proofs.SoundLists.{contains_at, at_contains}

-- ---- only a put, a write or a delete is replied ok
abbrev changing : Kind → Bool
changing Kind.Put = true
changing Kind.Write = true
changing Kind.Delete = true
changing kind = false

ok_by : (kind : Kind) (n : ℕ) → reply_by kind n ≡ reply.Done → changing kind ≡ true
ok_by Kind.Put n e = refl
ok_by Kind.Write n e = refl
ok_by Kind.Delete n e = refl
ok_by Kind.Stat n e = absurd (true≢false (sym (ap is_ok e)))
ok_by Kind.Get n e = absurd (true≢false (sym (ap is_ok e)))
ok_by Kind.ReadAt n e = absurd (true≢false (sym (ap is_ok e)))
ok_by Kind.Rebuild n e = absurd (true≢false (sym (ap is_ok e)))

ok_kind : (most : ℕ) (note : Note) (lengths : Lengths) → (apply_length most note lengths).1 ≡ reply.Done → changing note.kind ≡ true
ok_kind most note lengths e =
    by (refusal most note (length_in note.name lengths)) (refused_is_not_ok most note.kind note.offset note.length (length_in note.name lengths)) (sym (replied most note lengths) ∙ e)
  where
    by : (refused : Option Reply) → IfSome refused (λ r. is_ok r ≡ false) → reply_unless note.kind (found_length (length_in note.name lengths)) refused ≡ reply.Done → changing note.kind ≡ true
    by None h done = ok_by note.kind (found_length (length_in note.name lengths)) done
    by (Some r) h done = absurd (true≢false (sym (ap is_ok done) ∙ h))

-- the lengths at a point
replay_at : (most : ℕ) (lengths : Lengths) (points : List Point) (end : Lengths) (i : ℕ) (point : Point) → Replays most lengths points end → slice_get points i ≡ Some point
    → (l : Lengths) × FitsEvent point.event point.note.kind (apply_length most point.note l).1
replay_at most lengths [] end i point replays e = absurd (none-some point e)
replay_at most lengths (first ∷ points) end zero point replays e =
    subst (λ (p : Point). (l : Lengths) × FitsEvent p.event p.note.kind (apply_length most p.note l).1) (same_Some first point e) (lengths, replays.0)
replay_at most lengths (first ∷ points) end (suc i) point replays e =
    replay_at most (after_event first.event lengths (apply_length most first.note lengths).0) points end i point replays.1 e

done_kind : (kind : Kind) (answer : Reply) → FitsEvent Event.Done kind answer → changing kind ≡ true
done_kind Kind.Put answer h = refl
done_kind Kind.Write answer h = refl
done_kind Kind.Get answer h = absurd h
done_kind Kind.ReadAt answer h = absurd h
done_kind Kind.Stat answer h = absurd h
done_kind Kind.Delete answer h = absurd h
done_kind Kind.Rebuild answer h = absurd h

-- a change is of such a call
change_kind : (most : ℕ) (note : Note) (l : Lengths) (event : Event) → is_change event ≡ true → FitsEvent event note.kind (apply_length most note l).1 → changing note.kind ≡ true
change_kind most note l (Event.Answer reply.Done) e h = ok_kind most note l h
change_kind most note l (Event.Answer (reply.Bytes bytes)) e h = absurd (true≢false (sym e))
change_kind most note l (Event.Answer (reply.Length n)) e h = absurd (true≢false (sym e))
change_kind most note l (Event.Answer reply.NoSuch) e h = absurd (true≢false (sym e))
change_kind most note l (Event.Answer reply.OutRange) e h = absurd (true≢false (sym e))
change_kind most note l (Event.Answer reply.TooLarge) e h = absurd (true≢false (sym e))
change_kind most note l Event.Done e h = done_kind note.kind (apply_length most note l).1 h
change_kind most note l Event.Pinned e h = absurd (true≢false (sym e))
change_kind most note l Event.Reaped e h = absurd (true≢false (sym e))

-- of the object with the call's name
call_changes : (object : List ℕ) (made : Call) → changing (note_of made).kind ≡ true → bytes_eq object (note_of made).name ≡ true → changes_name object made ≡ true
call_changes object (call.Put other content) kind same = same
call_changes object (call.Write other offset content) kind same = same
call_changes object (call.Delete other) kind same = same
call_changes object (call.Get other) kind same = absurd (true≢false (sym kind))
call_changes object (call.ReadAt other offset count) kind same = absurd (true≢false (sym kind))
call_changes object (call.Stat other) kind same = absurd (true≢false (sym kind))

-- ---- its line
abbrev Shows : (Shown → Type 0) → Option Shown → Type 0
Shows P None = ⊥
Shows P (Some says) = P says

record LineAt (lines : List HLine) (place : ℕ) (call : ClientCall) (P : Shown → Type 0) : Type 0 where
  line : HLine
  stands : Contains lines line
  at_place : line.point ≡ place
  of_call : line.call ≡ call
  says : P line.reply

module _ (script : Script) (core : Core) where
  abbrev from : ℕ → Objects → List Point → List HLine
  from place objects points = history_from (size_of script) (call_of script) (answered_in core) place objects points

  head_line : (P : Shown → Type 0) (place : ℕ) (call : ClientCall) (rest : List HLine) (nm : Option ClientCall) (says : Option Shown) → nm ≡ Some call → Shows P says → LineAt (line_of place nm says ++ rest) place call P
  head_line P place call rest None says e h = absurd (none-some call e)
  head_line P place call rest (Some other) None e h = absurd h
  head_line P place call rest (Some other) (Some says) e h =
      record {
        line = record { point = place; call = other; reply = says };
        stands = contains_at (record { point = place; call = other; reply = says } ∷ rest) 0 (record { point = place; call = other; reply = says }) refl;
        at_place = refl;
        of_call = same_Some other call e;
        says = h;
      }

  line_from : (P : Shown → Type 0) (place : ℕ) (objects : Objects) (points : List Point) (at : ℕ) (point : Point) → slice_get points at ≡ Some point → (call : ClientCall) → client_call point.actor point.number ≡ Some call
      → ((mapped : Reply) → Shows P (shown_at point.event (answered_in core point.actor point.number) mapped)) → LineAt (from place objects points) (place + at) call P
  line_from P place objects [] at point e call named says = absurd (none-some point e)
  line_from P place objects (other ∷ points) zero point e call named says =
      let same : other ≡ point = same_Some other point e in
      let after : Objects × Reply = applied (size_of script) objects other.event (call_of script other.actor other.number) in
      let here : place ≡ place + 0 = omega arith in
      subst (λ n. LineAt (from place objects (other ∷ points)) n call P) here
      (head_line P place call (from (place + 1) after.0 points) (client_call other.actor other.number) (shown_at other.event (answered_in core other.actor other.number) after.1)
      (subst (λ (p : Point). client_call p.actor p.number ≡ Some call) (sym same) named)
      (subst (λ (p : Point). Shows P (shown_at p.event (answered_in core p.actor p.number) after.1)) (sym same) (says after.1)))
  line_from P place objects (other ∷ points) (suc at) point e call named says =
      let after : Objects × Reply = applied (size_of script) objects other.event (call_of script other.actor other.number) in
      let here : place + 1 + at ≡ place + suc at = omega arith in
      subst (λ n. LineAt (from place objects (other ∷ points)) n call P) here
      (later (line_of place (client_call other.actor other.number) (shown_at other.event (answered_in core other.actor other.number) after.1)) (from (place + 1) after.0 points)
      (line_from P (place + 1) after.0 points at point e call named says))
    where
      later : (some rest : List HLine) → LineAt rest (place + 1 + at) call P → LineAt (some ++ rest) (place + 1 + at) call P
      later some rest of = record { line = of.line; stands = Contains-append_right some rest of.line of.stands; at_place = of.at_place; of_call = of.of_call; says = of.says }

  -- a change shows as an effect
  effect_shown : (event : Event) (answered_now : Bool) (mapped : Reply) → is_change event ≡ true → Shows (λ says. is_effect says ≡ true) (shown_at event answered_now mapped)
  effect_shown (Event.Answer reply.Done) answered_now mapped e = refl
  effect_shown (Event.Answer (reply.Bytes bytes)) answered_now mapped e = absurd (true≢false (sym e))
  effect_shown (Event.Answer (reply.Length n)) answered_now mapped e = absurd (true≢false (sym e))
  effect_shown (Event.Answer reply.NoSuch) answered_now mapped e = absurd (true≢false (sym e))
  effect_shown (Event.Answer reply.OutRange) answered_now mapped e = absurd (true≢false (sym e))
  effect_shown (Event.Answer reply.TooLarge) answered_now mapped e = absurd (true≢false (sym e))
  effect_shown Event.Done true mapped e = refl
  effect_shown Event.Done false mapped e = refl
  effect_shown Event.Pinned answered_now mapped e = absurd (true≢false (sym e))
  effect_shown Event.Reaped answered_now mapped e = absurd (true≢false (sym e))

  any_at : (p : HLine → Bool) (lines : List HLine) (i : ℕ) (line : HLine) → slice_get lines i ≡ Some line → p line ≡ true → list_any p lines ≡ true
  any_at p [] i line e h = absurd (none-some line e)
  any_at p (first ∷ lines) zero line e h = ap (λ b. b || list_any p lines) (ap p (same_Some first line e) ∙ h)
  any_at p (first ∷ lines) (suc i) line e h = by (p first) (any_at p lines i line e h)
    where
      by : (b : Bool) → list_any p lines ≡ true → (b || list_any p lines) ≡ true
      by true k = refl
      by false k = k

  all_three : (a b c : Bool) → a ≡ true → b ≡ true → c ≡ true → (a && (b && c)) ≡ true
  all_three a b c e f h = λ i. e i && (f i && h i)

  both_true : (a b : Bool) → (a && b) ≡ true → (a ≡ true) × (b ≡ true)
  both_true true b e = (refl, e)
  both_true false b e = absurd (true≢false (sym e))

  module _ (sound : IsSound core.directory) (of_script : (i : ℕ) (point : Point) → slice_get core.directory.points i ≡ Some point → (point.event ≡ Event.Reaped) ⊎ IsOfCall script point) where
    pub change_line : (object : List ℕ) (place : ℕ) → IsChange core.directory.points object place → is_change_point script (shown script core) object place ≡ true
    change_line object place is = by (of_script place is.point is.found)
      where
        parts : (bytes_eq object is.point.note.name ≡ true) × (is_change is.point.event ≡ true)
        parts = both_true (bytes_eq object is.point.note.name) (is_change is.point.event) is.changed

        of_call : IsOfCall script is.point → (who : Actor) → is.point.actor ≡ who → is_change_point script (shown script core) object place ≡ true
        of_call of (actor.Client i) mine =
            let line : LineAt (history_of script core) (0 + place) (client i is.point.number) (λ says. is_effect says ≡ true) =
            line_from (λ says. is_effect says ≡ true) 0 [] core.directory.points place is.point is.found (client i is.point.number) (ap (λ a. client_call a is.point.number) mine)
            (λ mapped. effect_shown is.point.event (answered_in core is.point.actor is.point.number) mapped parts.1) in
            let at : (k : ℕ) × (slice_get (history_of script core) k ≡ Some line.line) = at_contains (history_of script core) line.line line.stands in
            let replay : (l : Lengths) × FitsEvent is.point.event is.point.note.kind (apply_length core.directory.max is.point.note l).1 =
            replay_at core.directory.max [] core.directory.points (lengths_of core.directory) place is.point sound.history is.found in
            let kind : changing is.point.note.kind ≡ true = change_kind core.directory.max is.point.note replay.0 is.point.event parts.1 replay.1 in
            let changed : changes_name object of.call ≡ true =
            call_changes object of.call (subst (λ (n : Note). changing n.kind ≡ true) of.noted kind) (subst (λ (n : Note). bytes_eq object n.name ≡ true) of.noted parts.0) in
            let called : script_call script line.line.call ≡ Some of.call = ap (script_call script) line.of_call ∙ (sym (ap (λ a. call_of script a is.point.number) mine) ∙ of.is_call) in
            let same : nat_eq line.line.point place ≡ true = eq-eqb line.line.point place (let here : line.line.point ≡ 0 + place = line.at_place in omega (arith, here)) in
            any_at (λ l. nat_eq l.point place && is_change_line script object l) (history_of script core) at.0 line.line at.1
            (all_three (nat_eq line.line.point place) (is_effect line.line.reply) (option_map_or (changes_name object) (script_call script line.line.call) false) same line.says
            (ap (λ o. option_map_or (changes_name object) o false) called ∙ changed))
        of_call of (actor.Repairer i) mine = absurd (none-some of.call (sym (ap (λ a. call_of script a is.point.number) mine) ∙ of.is_call))
        of_call of actor.Sweeper mine = absurd (none-some of.call (sym (ap (λ a. call_of script a is.point.number) mine) ∙ of.is_call))
        of_call of actor.Operator mine = absurd (none-some of.call (sym (ap (λ a. call_of script a is.point.number) mine) ∙ of.is_call))

        by : (is.point.event ≡ Event.Reaped) ⊎ IsOfCall script is.point → is_change_point script (shown script core) object place ≡ true
        by (inl reaped) = absurd (true≢false (sym parts.1 ∙ ap is_change reaped))
        by (inr of) = of_call of is.point.actor refl
