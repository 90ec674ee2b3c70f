-- The history that a run shows has the plain map's replies.
use Rattle.std.proofs.Common.{◌≡◌, ℕ, ◌+◌, Bool, true, false, List, [], ◌∷◌, ◌++◌, length, map, Option, None, Some, All, IsTrue, inl, inr, ◌⊎◌, refl, sym, ap, subst, ◌∙◌}
use Rattle.std.proofs.lemmas.Option.{none-some}
use Rattle.std.proofs.lemmas.List.Elements.{All-head, All-tail}
use Rattle.store_map.specs.Limits.{size_of}
use Rattle.store_map.specs.PlainMap.{Objects, apply}
use Rattle.store_map.specs.declared.actor.Actor.{Actor}
use Rattle.store_map.specs.declared.actor.Actor.TheVariants as actor
use Rattle.store_map.specs.declared.call.Call.{Call}
use Rattle.store_map.specs.declared.call.Call.TheVariants as call
use Rattle.store_map.specs.declared.reply.Reply.{Reply}
use Rattle.store_map.specs.declared.reply.Reply.TheVariants as reply
use Rattle.store_map.specs.declared.script.Script.{Script}
use Rattle.store_map.specs.declared.call_name.ClientCall.{ClientCall}
use Rattle.store_map.specs.declared.shown.Shown.{Shown}
use Rattle.store_map.specs.declared.line.HLine.{HLine}
use Rattle.store_map.specs.declared.line.LLine.{LLine}
use Rattle.store_core.specs.Core.{Core}
use Rattle.store_core.specs.Directory.{Object, Event, Point}
use Rattle.store_core.specs.History.{call_of, answered_in, applied, shown_at, client_call, line_of, history_from, history_of}
use Rattle.store_core.specs.Lengths.{Lengths, apply_length}
use Rattle.store_core.specs.Note.{Note, note_of}
use Rattle.store_core.specs.Replay.{FitsEvent, after_event, Replays}
use Rattle.store_core.specs.RowLines.{client}
use Rattle.store_core.specs.Schedule.{run_core}
use Rattle.store_core.specs.Sound.{lengths_of}
use Rattle.run_laws.proofs.Runs.{CanRun}
use Rattle.run_laws.proofs.RunsSound.{RunKeeps}
use Rattle.run_laws.proofs.Scripts.{can_run}
use Rattle.hist_rules.specs.Calls.{call_of as script_call}
use Rattle.hist_rules.specs.MapReplies.{ShowsReply}
use Rattle.hist_rules.specs.RepliesMatch.{is_put_or_write}
use Rattle.history_laws.proofs.TellReplies.{after_call, TellsReply, TellReplies, map_from, listed, replies_told, objects_told}
use Rattle.history_laws.specs.HistoryLaws.{RunsReply}
use Rattle.history_laws.proofs.Induction.{run_has}
use Rattle.history_laws.proofs.MapLengths.{lengths, without_bytes, SeenBy, lengths_apply}
use Rattle.history_laws.proofs.Points.{IsPlain, IsOfCall, IsOfScript}
use Rattle.history_laws.proofs.PointsOfCalls.{PointsOfScript, points_kept, no_points}

-- ---- shortages
-- a reply that has no bytes is the map's own
unseen : (mapped given : Reply) → without_bytes mapped ≡ given → IsPlain (Event.Answer given) → given ≡ mapped
unseen (reply.Bytes bytes) given e plain = absurd (subst (λ r. IsPlain (Event.Answer r)) (sym e) plain)
unseen reply.Done given e plain = sym e
unseen (reply.Length n) given e plain = sym e
unseen reply.NoSuch given e plain = sym e
unseen reply.OutRange given e plain = sym e
unseen reply.TooLarge given e plain = sym e

plain_after : (event : Event) (before after : Lengths) → IsPlain event → after_event event before after ≡ after
plain_after (Event.Answer given) before after plain = refl
plain_after Event.Pinned before after plain = refl
plain_after Event.Done before after plain = refl
plain_after Event.Reaped before after plain = absurd plain

plain_applied : (max : ℕ) (objects : Objects) (event : Event) (made : Call) → IsPlain event → applied max objects event (Some made) ≡ apply max made objects
plain_applied max objects (Event.Answer given) made plain = refl
plain_applied max objects Event.Pinned made plain = refl
plain_applied max objects Event.Done made plain = refl
plain_applied max objects Event.Reaped made plain = absurd plain

-- ---- one point
module _ (max : ℕ) (objects : Objects) (made : Call) where
  abbrev after : Objects × Reply
  after = apply max made objects

  -- what a point shows is the map's reply; where it shows nothing it changed nothing
  abbrev ShownFits : Option Shown → Type 0
  ShownFits None = after.0 ≡ objects
  ShownFits (Some says) = ShowsReply (Some made) after.1 says

  abbrev IsMarkedSo : Event → Type 0
  IsMarkedSo event = FitsEvent event (note_of made).kind (apply_length max (note_of made) (lengths objects)).1

  abbrev seen : SeenBy after (apply_length max (note_of made) (lengths objects))
  seen = lengths_apply max objects made

-- a pinned look changes nothing
pinned_same : (max : ℕ) (objects : Objects) (made : Call) → IsMarkedSo max objects made Event.Pinned → (apply max made objects).0 ≡ objects
pinned_same max objects (call.Get object) h = refl
pinned_same max objects (call.ReadAt object offset count) h = refl
pinned_same max objects (call.Put object content) h = absurd h
pinned_same max objects (call.Write object offset content) h = absurd h
pinned_same max objects (call.Stat object) h = absurd h
pinned_same max objects (call.Delete object) h = absurd h

-- a commit is of a put or a write, and done
done_so : (max : ℕ) (objects : Objects) (made : Call) → IsMarkedSo max objects made Event.Done → IsTrue (is_put_or_write made) × (reply.Done ≡ (apply max made objects).1)
done_so max objects (call.Put object content) h = (refl, unseen _ reply.Done ((lengths_apply max objects (call.Put object content)).1 ∙ h) tt)
done_so max objects (call.Write object offset content) h = (refl, unseen _ reply.Done ((lengths_apply max objects (call.Write object offset content)).1 ∙ h) tt)
done_so max objects (call.Get object) h = absurd h
done_so max objects (call.ReadAt object offset count) h = absurd h
done_so max objects (call.Stat object) h = absurd h
done_so max objects (call.Delete object) h = absurd h

module _ (max : ℕ) (objects : Objects) (made : Call) where
  -- an answer is the map's by lengths
  answer_fits : (given : Reply) → IsMarkedSo max objects made (Event.Answer given) → (apply_length max (note_of made) (lengths objects)).1 ≡ given
  answer_fits (reply.Bytes bytes) h = absurd h
  answer_fits reply.Done h = h
  answer_fits (reply.Length n) h = h
  answer_fits reply.NoSuch h = h
  answer_fits reply.OutRange h = h
  answer_fits reply.TooLarge h = h

  point_fits : (event : Event) (answered : Bool) → IsPlain event → IsMarkedSo max objects made event → ShownFits max objects made (shown_at event answered (apply max made objects).1)
  point_fits (Event.Answer given) answered plain h = unseen (apply max made objects).1 given ((lengths_apply max objects made).1 ∙ answer_fits given h) plain
  point_fits Event.Pinned true plain h = refl
  point_fits Event.Pinned false plain h = pinned_same max objects made h
  point_fits Event.Done true plain h = (done_so max objects made h).1
  point_fits Event.Done false plain h = let so : IsTrue (is_put_or_write made) × (reply.Done ≡ (apply max made objects).1) = done_so max objects made h in (sym so.1, so.0)
  point_fits Event.Reaped answered plain h = absurd plain

-- ---- all points
module _ (script : Script) (core : Core) (end : Lengths) where
  -- the lines tell the map's replies, and end with these lengths
  abbrev Told : Objects → List HLine → Type 0
  Told objects lines = TellReplies script objects lines × (lengths (map_from script objects lines) ≡ end)

  -- a line before others
  with_line : (objects : Objects) (place : ℕ) (named : ClientCall) (made : Call) (rest : List HLine) (says : Option Shown) → script_call script named ≡ Some made
      → ShownFits (size_of script) objects made says → Told (apply (size_of script) made objects).0 rest → Told objects (line_of place (Some named) says ++ rest)
  with_line objects place named made rest None is_call same told = subst (λ o. Told o rest) same told
  with_line objects place named made rest (Some says) is_call fits told =
      subst
      (λ (c : Option Call).
      (TellsReply (size_of script) objects says c × TellReplies script (after_call (size_of script) objects c) rest) × (lengths (map_from script (after_call (size_of script) objects c) rest) ≡ end))
      (sym is_call) ((fits, told.0), told.1)

  -- a reap shows nothing
  no_line : (place : ℕ) (named : Option ClientCall) → line_of place named None ≡ []
  no_line place None = refl
  no_line place (Some named) = refl

  -- the client that made a call
  pub record IsClients (who : Actor) (number : ℕ) (made : Call) : Type 0 where
    pub named : ClientCall
    pub is_name : client_call who number ≡ Some named
    pub is_call : script_call script named ≡ Some made

  clients : (who : Actor) (number : ℕ) (made : Call) → call_of script who number ≡ Some made → IsClients who number made
  clients (actor.Client i) number made e = record { named = client i number; is_name = refl; is_call = e }
  clients (actor.Repairer i) number made e = absurd (none-some made e)
  clients actor.Sweeper number made e = absurd (none-some made e)
  clients actor.Operator number made e = absurd (none-some made e)

  abbrev from : ℕ → Objects → List Point → List HLine
  from place objects points = history_from (size_of script) (call_of script) (answered_in core) place objects points

  module _ (place : ℕ) (objects : Objects) (point : Point) (points : List Point) (later : (objects : Objects) → Replays (size_of script) (lengths objects) points end → Told objects (from (place + 1) objects points)) where
    abbrev Goal : Event → Option ClientCall → Option Call → Type 0
    Goal event named made =
        let next : Objects × Reply = applied (size_of script) objects event made in
        Told objects (line_of place named (shown_at event (answered_in core point.actor point.number) next.1) ++ from (place + 1) next.0 points)

    reaped : point.event ≡ Event.Reaped → Replays (size_of script) (lengths objects) (point ∷ points) end → Told objects (from place objects (point ∷ points))
    reaped is_reaped replays =
        let rest : Replays (size_of script) (lengths objects) points end =
        subst (λ m. Replays (size_of script) (after_event m (lengths objects) (apply_length (size_of script) point.note (lengths objects)).0) points end) is_reaped replays.1 in
        subst (λ m. Goal m (client_call point.actor point.number) (call_of script point.actor point.number)) (sym is_reaped)
        (subst (λ (l : List HLine). Told objects (l ++ from (place + 1) objects points)) (sym (no_line place (client_call point.actor point.number))) (later objects rest))

    of_call : IsOfCall script point → Replays (size_of script) (lengths objects) (point ∷ points) end → Told objects (from place objects (point ∷ points))
    of_call of replays =
        subst (λ (c : Option Call). Goal point.event (client_call point.actor point.number) c) (sym of.is_call)
        (subst (λ (n : Option ClientCall). Goal point.event n (Some of.call)) (sym by_client.is_name)
        (subst
        (λ (next : Objects × Reply).
        Told objects (line_of place (Some by_client.named) (shown_at point.event (answered_in core point.actor point.number) next.1) ++ from (place + 1) next.0 points))
        (sym (plain_applied max objects point.event of.call of.plain))
        (with_line objects place by_client.named of.call (from (place + 1) (apply max of.call objects).0 points) (shown_at point.event (answered_in core point.actor point.number) (apply max of.call objects).1)
        by_client.is_call (point_fits max objects of.call point.event (answered_in core point.actor point.number) of.plain marked) (later (apply max of.call objects).0 rest))))
      where
        max : ℕ
        max = size_of script

        by_client : IsClients point.actor point.number of.call
        by_client = clients point.actor point.number of.call of.is_call

        marked : IsMarkedSo (size_of script) objects of.call point.event
        marked = subst (λ (n : Note). FitsEvent point.event n.kind (apply_length (size_of script) n (lengths objects)).1) of.noted replays.0

        rest : Replays (size_of script) (lengths (apply (size_of script) of.call objects).0) points end
        rest =
            subst (λ (l : Lengths). Replays (size_of script) l points end)
            (plain_after point.event (lengths objects) (apply_length (size_of script) point.note (lengths objects)).0 of.plain
            ∙ ap (λ (n : Note). (apply_length (size_of script) n (lengths objects)).0) of.noted ∙ sym (lengths_apply (size_of script) objects of.call).0) replays.1

  replayed : (points : List Point) (place : ℕ) (objects : Objects) → All (IsOfScript script) points → Replays (size_of script) (lengths objects) points end → Told objects (from place objects points)
  replayed [] place objects all replays = (tt, replays)
  replayed (point ∷ points) place objects all replays =
      by (λ o r. replayed points (place + 1) o (All-tail (IsOfScript script) point points all) r) (All-head (IsOfScript script) point points all)
    where
      by : ((o : Objects) → Replays (size_of script) (lengths o) points end → Told o (from (place + 1) o points)) → (point.event ≡ Event.Reaped) ⊎ IsOfCall script point
          → Told objects (from place objects (point ∷ points))
      by later (inl e) = reaped place objects point points later e replays
      by later (inr of) = of_call place objects point points later of replays

-- ---- the objects at the end
abbrev line_of_pair : List ℕ × ℕ → LLine
line_of_pair pair = record { name = pair.0; length = pair.1 }

abbrev line_of_object : Object → LLine
line_of_object object = record { name = object.name; length = object.length }

abbrev pair_of_object : Object → List ℕ × ℕ
pair_of_object object = (object.name, object.length)

listed_lengths : (objects : Objects) → map line_of_pair (lengths objects) ≡ listed objects
listed_lengths [] = refl
listed_lengths (object ∷ objects) = ap (λ (l : List LLine). line_of_pair (object.0, length object.1) ∷ l) (listed_lengths objects)

listed_objects : (objects : List Object) → map line_of_object objects ≡ map line_of_pair (map pair_of_object objects)
listed_objects [] = refl
listed_objects (object ∷ objects) = ap (λ (l : List LLine). line_of_object object ∷ l) (listed_objects objects)

-- what a run shows has the map's replies
pub runs_reply : RunsReply
runs_reply script shortages geometry valid tokens few =
    let can : CanRun script = can_run script geometry valid in
    let core : Core = run_core script shortages tokens in
    let end : RunKeeps script core × PointsOfScript script tokens core = run_has script can (PointsOfScript script) (points_kept script can) shortages (no_points script can) tokens in
    let replays : Replays (size_of script) [] core.directory.points (lengths_of core.directory) =
    subst (λ max. Replays max [] core.directory.points (lengths_of core.directory)) end.0.keeps.max end.0.sound.history in
    let told : Told script core (lengths_of core.directory) [] (history_of script core) = replayed script core (lengths_of core.directory) core.directory.points 0 [] end.1 replays in
    record {
      replies = replies_told script (history_of script core) [] told.0;
      objects =
          listed_objects core.directory.objects
          ∙ ap (map line_of_pair) (sym told.1) ∙ listed_lengths (map_from script [] (history_of script core)) ∙ ap listed (objects_told script (history_of script core) [] told.0);
    }
