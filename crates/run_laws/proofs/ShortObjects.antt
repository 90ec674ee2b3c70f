-- Of a sound directory no object is longer than it allows.
use Rattle.std.proofs.Common.{◌≡◌, ℕ, ◌+◌, ◌≤◌, max, nat_lt, List, [], ◌∷◌, map, Option, None, Some, All, refl, sym, subst, arith, bytes_eq}
use Rattle.std.proofs.lemmas.Bool.{cond_both, ltb-false}
use Rattle.std.proofs.lemmas.List.Elements.{All-nil, All-cons}
use Rattle.store_map.specs.declared.reply.Reply.{Reply}
use Rattle.store_map.specs.declared.reply.Reply.TheVariants as reply
use Rattle.store_core.specs.Note.{Note, Kind, refusal_of_size, refusal_by, refusal}
use Rattle.store_core.specs.Directory.{Object, Event, Point, Directory}
use Rattle.store_core.specs.Lengths.{Lengths, length_in, put_length, delete_length, lengths_by, found_length, answered_by, apply_length}
use Rattle.store_core.specs.Replay.{after_event, Replays}
use Rattle.store_core.specs.Sound.{IsSound}
use Rattle.run_laws.specs.AnswerLaws.{AreWithinMax}

-- no length is above the greatest
abbrev AllShort : ℕ → Lengths → Type 0
AllShort most [] = Unit {0}
AllShort most (entry ∷ entries) = (entry.1 ≤ most) × AllShort most entries

-- a length that is found
found_short : (most : ℕ) (name : List ℕ) (lengths : Lengths) → AllShort most lengths → found_length (length_in name lengths) ≤ most
found_short most name [] h = omega arith
found_short most name (entry ∷ entries) h =
    cond_both {A = Option ℕ} (bytes_eq name entry.0) (Some entry.1) (length_in name entries) (λ found. found_length found ≤ most) (λ _. h.0) (λ _. found_short most name entries h.1)

-- a put of a length that fits
put_short : (most : ℕ) (name : List ℕ) (n : ℕ) (lengths : Lengths) → n ≤ most → AllShort most lengths → AllShort most (put_length name n lengths)
put_short most name n [] fits h = (fits, tt)
put_short most name n (entry ∷ entries) fits h =
    cond_both {A = Lengths} (bytes_eq name entry.0) ((entry.0, n) ∷ entries) (entry ∷ put_length name n entries) (AllShort most)
    (λ _. (fits, h.1)) (λ _. (h.0, put_short most name n entries fits h.1))

-- a delete
delete_short : (most : ℕ) (name : List ℕ) (lengths : Lengths) → AllShort most lengths → AllShort most (delete_length name lengths)
delete_short most name [] h = tt
delete_short most name (entry ∷ entries) h =
    cond_both {A = Lengths} (bytes_eq name entry.0) entries (entry ∷ delete_length name entries) (AllShort most) (λ _. h.1) (λ _. (h.0, delete_short most name entries h.1))

-- the lengths after a call, by the reply where it is refused
abbrev lengths_unless : Kind → Note → Lengths → Option Reply → Lengths
lengths_unless kind note lengths (Some refused) = lengths
lengths_unless kind note lengths None = lengths_by kind note (found_length (length_in note.name lengths)) lengths

same_lengths : (note : Note) (lengths : Lengths) (refused : Option Reply) → (answered_by note lengths refused).0 ≡ lengths_unless note.kind note lengths refused
same_lengths note lengths (Some refused) = refl
same_lengths note lengths None = refl

module _ (most : ℕ) (note : Note) (lengths : Lengths) (short : AllShort most lengths) where
  abbrev ShortAfter : Kind → Option Reply → Type 0
  ShortAfter kind refused = AllShort most (lengths_unless kind note lengths refused)

  written_short : note.offset + note.length ≤ most → AllShort most (put_length note.name (max (found_length (length_in note.name lengths)) (note.offset + note.length)) lengths)
  written_short fits =
      let old : ℕ = found_length (length_in note.name lengths) in
      let old_fits : old ≤ most = found_short most note.name lengths short in
      let new : ℕ = note.offset + note.length in
      put_short most note.name (max old new) lengths (omega (arith, old_fits, fits)) short

  by_kind : (kind : Kind) (found : Option ℕ) → ShortAfter kind (refusal_by most kind note.offset note.length found)
  by_kind Kind.Put found =
      cond_both {A = Option Reply} (nat_lt most note.length) (Some reply.TooLarge) None (ShortAfter Kind.Put)
      (λ _. short) (λ e. put_short most note.name note.length lengths (ltb-false most note.length e) short)
  by_kind Kind.Write None = short
  by_kind Kind.Write (Some length) =
      cond_both {A = Option Reply} (nat_lt length note.offset) (Some reply.OutRange) (refusal_of_size most (note.offset + note.length)) (ShortAfter Kind.Write)
      (λ _. short)
      (λ _. cond_both {A = Option Reply} (nat_lt most (note.offset + note.length)) (Some reply.TooLarge) None (ShortAfter Kind.Write)
      (λ _. short) (λ e. written_short (ltb-false most (note.offset + note.length) e)))
  by_kind Kind.ReadAt None = short
  by_kind Kind.ReadAt (Some length) =
      cond_both {A = Option Reply} (nat_lt length note.offset) (Some reply.OutRange) None (ShortAfter Kind.ReadAt) (λ _. short) (λ _. short)
  by_kind Kind.Get None = short
  by_kind Kind.Get (Some length) = short
  by_kind Kind.Stat None = short
  by_kind Kind.Stat (Some length) = short
  by_kind Kind.Delete None = short
  by_kind Kind.Delete (Some length) = delete_short most note.name lengths short
  by_kind Kind.Rebuild None = short
  by_kind Kind.Rebuild (Some length) = short

  -- a call that isn't refused leaves all lengths short
  applied_short : AllShort most (apply_length most note lengths).0
  applied_short =
      subst (AllShort most) (sym (same_lengths note lengths (refusal most note (length_in note.name lengths)))) (by_kind note.kind (length_in note.name lengths))

marked_short : (most : ℕ) (event : Event) (before after : Lengths) → AllShort most before → AllShort most after → AllShort most (after_event event before after)
marked_short most Event.Reaped before after h k = h
marked_short most event before after h k = k

-- so does each history
replayed_short : (most : ℕ) (lengths : Lengths) (points : List Point) (end : Lengths) → AllShort most lengths → Replays most lengths points end → AllShort most end
replayed_short most lengths [] end h same = subst (AllShort most) same h
replayed_short most lengths (point ∷ points) end h replays =
    replayed_short most (after_event point.event lengths (apply_length most point.note lengths).0) points end
    (marked_short most point.event lengths (apply_length most point.note lengths).0 h (applied_short most point.note lengths h)) replays.1

objects_short : (most : ℕ) (objects : List Object) → AllShort most (map (λ object. (object.name, object.length)) objects) → All (λ object. object.length ≤ most) objects
objects_short most [] h = All-nil (λ (object : Object). object.length ≤ most)
objects_short most (object ∷ objects) h = All-cons (λ (object : Object). object.length ≤ most) object objects h.0 (objects_short most objects h.1)

-- a sound directory's objects are short
pub sound_short : (d : Directory) → IsSound d → AreWithinMax d
sound_short d sound = objects_short d.max d.objects (replayed_short d.max [] d.points (map (λ object. (object.name, object.length)) d.objects) tt sound.history)
