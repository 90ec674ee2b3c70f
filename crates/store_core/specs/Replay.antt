-- The directory's points replayed by names and lengths alone.
use Rattle.std.specs.Prelude.{◌≡◌, ℕ, List, [], ◌∷◌, fold, ⊤}
use Rattle.store_map.specs.declared.reply.Reply.{Reply}
use Rattle.store_map.specs.declared.reply.Reply.TheVariants as reply
use Rattle.store_core.specs.Note.{Kind}
use Rattle.store_core.specs.Directory.{Event, Point}
use Rattle.store_core.specs.Lengths.{Lengths, apply_length}

-- what an event says of the reply at its point; no point is answered with bytes
abbrev pub FitsEvent : Event → Kind → Reply → Type 0
FitsEvent (Event.Answer (reply.Bytes bytes)) kind answer = ⊥
FitsEvent (Event.Answer given) kind answer = answer ≡ given
FitsEvent Event.Pinned Kind.Get answer = answer ≡ reply.Bytes []
FitsEvent Event.Pinned Kind.ReadAt answer = answer ≡ reply.Bytes []
FitsEvent Event.Done Kind.Put answer = answer ≡ reply.Done
FitsEvent Event.Done Kind.Write answer = answer ≡ reply.Done
FitsEvent Event.Reaped kind answer = ⊤
FitsEvent event kind answer = ⊥

-- a reap changes nothing
abbrev pub after_event : Event → Lengths → Lengths → Lengths
after_event Event.Reaped before after = before
after_event event before after = after

-- replaying the points from some lengths on keeps each event, and ends with these lengths
abbrev pub Replays : ℕ → Lengths → List Point → Lengths → Type 0
Replays max_length lengths [] end = lengths ≡ end
Replays max_length lengths (point ∷ points) end =
    FitsEvent point.event point.note.kind (apply_length max_length point.note lengths).1
    × Replays max_length (after_event point.event lengths (apply_length max_length point.note lengths).0) points end

-- the lengths after some points
abbrev pub lengths_after : ℕ → List Point → Lengths
lengths_after max_length points =
    fold (λ lengths point. after_event point.event lengths (apply_length max_length point.note lengths).0) [] points
