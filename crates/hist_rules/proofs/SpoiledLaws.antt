-- A line that is changed or left out breaks a history.
use Rattle.std.proofs.Common.{◌≡◌, ◌⊎◌, inl, inr, ℕ, zero, suc, true, List, [], ◌∷◌, map, length, slice_get, Contains, Option, None, Some, is_some, unwrap_or, option_and_then, All, refl, sym, ap, subst, ◌∙◌, true≢false, arith}
use Rattle.std.specs.Bool.{IsTrue}
use Rattle.std.specs.List.{zip, filter_map, cons_option}
use Rattle.std.proofs.lemmas.List.Elements.{All-nil, All-cons, All-head, All-tail, All-contains, Contains-append_cases}
use Rattle.std.proofs.lemmas.Bool.{eqb-true}
use Rattle.store_map.specs.History.{replies_of}
use Rattle.store_map.specs.Limits.{size_of}
use Rattle.store_map.specs.declared.call.Call.{Call}
use Rattle.store_map.specs.declared.reply.Reply.{Reply}
use Rattle.store_map.specs.declared.script.Script.{Script}
use Rattle.store_map.specs.declared.call_name.CallName.{CallName}
use Rattle.store_map.specs.declared.call_name.CallName.TheVariants.{Client, Repairer}
use Rattle.store_map.specs.declared.cause.Triple.{Triple}
use Rattle.store_map.specs.declared.shown.Shown.{Shown}
use Rattle.store_map.specs.declared.shown.Shown.TheVariants.{Reply as Replied, Unfinished}
use Rattle.store_map.specs.declared.line.HLine.{HLine}
use Rattle.store_map.specs.declared.line.XLine.{XLine}
use Rattle.store_map.specs.declared.line.TLine.{TLine}
use Rattle.store_map.specs.declared.transcript.Transcript.{Transcript}
use Rattle.hist_rules.specs.First.{AllAfter}
use Rattle.hist_rules.specs.Calls.{number_of, with_number, same_actor, call_of}
use Rattle.hist_rules.specs.Named.{listed_calls, answered_calls, is_reply}
use Rattle.hist_rules.specs.OneOpenCall.{unanswered_calls}
use Rattle.hist_rules.specs.LostChunks.{unavailable_calls}
use Rattle.hist_rules.specs.RepliesMatch.{history_calls}
use Rattle.hist_rules.specs.ObjectsListed.{map_lines}
use Rattle.hist_rules.specs.MapReplies.{ShowsReply}
use Rattle.hist_rules.specs.FoundMissing.{LacksChunks}
use Rattle.hist_rules.specs.GivenUpOrLost.{LostRace, IsLoser}
use Rattle.hist_rules.specs.CallOrder.{Follows, IsInOrder, IsNext}
use Rattle.hist_rules.specs.LostRaces.{written_name}
use Rattle.hist_rules.specs.IsHistory.{AddsUp, IsHistory}
use Rattle.hist_rules.specs.SpoiledLaws.{ReplyChanged, AnswerLeftOut, OutcomeLeftOut, ObjectsChanged, TakesChanged, ServersLeftOut, RacesLeftOut}
use Rattle.hist_rules.proofs.LineLaws.{replies_there}

-- ---- replies
filter_map_of_map : {X Y Z : Type 0} (f : Y → Option Z) (g : X → Y) (xs : List X) → filter_map (λ x. f (g x)) xs ≡ filter_map f (map g xs)
filter_map_of_map f g [] = refl
filter_map_of_map f g (x ∷ xs) = ap (cons_option (f (g x))) (filter_map_of_map f g xs)

length_of_map : {X Y : Type 0} (g : X → Y) (xs : List X) → length (map g xs) ≡ length xs
length_of_map g [] = refl
length_of_map g (x ∷ xs) = ap suc (length_of_map g xs)

-- the reply that the map gives at a place, which is the one that the line there tells
record Told (replies : List Reply) (place : ℕ) (line : HLine) : Type 0 where
  reply : Reply
  found : slice_get replies place ≡ Some reply
  is : line.reply ≡ Replied reply

shown_is : (call : Option Call) (reply : Reply) (shown : Shown) → ShowsReply call reply shown → IsTrue (is_reply shown) → shown ≡ Replied reply
shown_is call reply (Replied printed) h replied = ap Replied h
shown_is call reply Unfinished h replied = absurd (true≢false (sym replied))

abbrev Says : Script → HLine × Reply → Type 0
Says script line = ShowsReply (call_of script line.0.call) line.1 line.0.reply

told_at : (script : Script) (lines : List HLine) (replies : List Reply) → length replies ≡ length lines → All (Says script) (zip lines replies)
    → (place : ℕ) (line : HLine) → slice_get lines place ≡ Some line → IsTrue (is_reply line.reply) → Told replies place line
told_at script [] replies count h place line e replied = absurd (true≢false (sym (ap is_some e)))
told_at script (first ∷ lines) [] count h place line e replied = absurd (omega (arith, count))
told_at script (first ∷ lines) (reply ∷ replies) count h zero line e replied =
    record {
      reply = reply;
      found = refl;
      is =
          shown_is (call_of script line.call) reply line.reply
          (subst (λ (one : HLine). ShowsReply (call_of script one.call) reply one.reply) (ap (λ found. unwrap_or found first) e) (All-head (Says script) (first, reply) (zip lines replies) h)) replied;
    }
told_at script (first ∷ lines) (reply ∷ replies) count h (suc place) line e replied =
    by (told_at script lines replies (omega (arith, count)) (All-tail (Says script) (first, reply) (zip lines replies) h) place line e replied)
  where
    by : Told replies place line → Told (reply ∷ replies) (suc place) line
    by told = record { reply = told.reply; found = told.found; is = told.is }

same_calls : (script : Script) (t other : Transcript) → map (λ (line : HLine). line.call) other.history ≡ map (λ (line : HLine). line.call) t.history
    → history_calls script other ≡ history_calls script t
same_calls script t other e =
    filter_map_of_map (call_of script) (λ (line : HLine). line.call) other.history
    ∙ ap (filter_map (call_of script)) e
    ∙ sym (filter_map_of_map (call_of script) (λ (line : HLine). line.call) t.history)

pub reply_breaks : (script : Script) (t other : Transcript) → IsHistory script t → ReplyChanged t other → ¬ IsHistory script other
reply_breaks script t other history changed broken = by (told_at script t.history replies there history.replies.replies changed.place changed.line changed.stands changed.replied)
    (told_at script other.history replies there_too
    (subst (λ calls. All (Says script) (zip other.history (replies_of (size_of script) calls))) (same_calls script t other changed.calls) broken.replies.replies)
    changed.place changed.changed changed.stands_there changed.replied_there)
  where
    replies : List Reply
    replies = replies_of (size_of script) (history_calls script t)

    there : length replies ≡ length t.history
    there = replies_there script t history.order

    there_too : length replies ≡ length other.history
    there_too =
        there ∙ sym (length_of_map (λ (line : HLine). line.call) t.history) ∙ sym (ap length changed.calls) ∙ length_of_map (λ (line : HLine). line.call) other.history

    by : Told replies changed.place changed.line → Told replies changed.place changed.changed → ⊥
    by told told_there =
        changed.differs (told_there.is ∙ ap (λ found. Replied (unwrap_or found told.reply)) (sym told_there.found ∙ told.found) ∙ sym told.is)

-- ---- lines left out
all_of_after : {X : Type 0} (R : List X → X → Type 0) (P : X → Type 0) → ((before : List X) (x : X) → R before x → P x) → (before xs : List X) → AllAfter R before xs → All P xs
all_of_after R P there before [] h = All-nil P
all_of_after R P there before (x ∷ xs) h = All-cons P x xs (there before x h.0) (all_of_after R P there (x ∷ before) xs h.1)

same_number : (later call : CallName) → same_actor later call ≡ true → with_number later (number_of call) ≡ call
same_number (Client a) (Client b) e = ap (λ actor. Client (record b { client = actor })) (eqb-true a.client b.client e)
same_number (Repairer a) (Repairer b) e = ap (λ actor. Repairer (record b { repairer = actor })) (eqb-true a.repairer b.repairer e)
same_number (Client a) (Repairer b) e = absurd (true≢false (sym e))
same_number (Repairer a) (Client b) e = absurd (true≢false (sym e))

pub answer_breaks : (script : Script) (t : Transcript) (call later : CallName) → AnswerLeftOut t call later → ¬ IsHistory script t
answer_breaks script t call later left history =
    left.gone (subst (Contains (answered_calls t)) (same_number later call left.actor) (follows (Contains-append_cases (answered_calls t) (unanswered_calls t) later left.stands) (number_of call) left.earlier))
  where
    follows : Contains (answered_calls t) later ⊎ Contains (unanswered_calls t) later → Follows (answered_calls t) later
    follows (inl at) =
        All-contains (Follows (answered_calls t)) (answered_calls t) later
        (all_of_after (IsInOrder (answered_calls t)) (Follows (answered_calls t)) (λ before x h. h.earlier) [] (answered_calls t) history.order.answered) at
    follows (inr at) =
        All-contains (Follows (answered_calls t)) (unanswered_calls t) later
        (all_of_after (IsNext (answered_calls t)) (Follows (answered_calls t)) (λ before x h. h.earlier) [] (unanswered_calls t) history.order.unanswered) at

all_of_lines : {X Y : Type 0} (P : Y → Type 0) (f : X → Y) (xs : List X) → All (λ x. P (f x)) xs → All P (map f xs)
all_of_lines P f [] h = All-nil P
all_of_lines P f (x ∷ xs) h = All-cons P (f x) (map f xs) (All-head (λ y. P (f y)) x xs h) (all_of_lines P f xs (All-tail (λ y. P (f y)) x xs h))

pub outcome_breaks : (script : Script) (t : Transcript) (call : CallName) → OutcomeLeftOut t call → ¬ IsHistory script t
outcome_breaks script t call left history =
    left.gone (All-contains (Contains (listed_calls t)) (map (λ line. line.call) t.takes) call
    (all_of_lines (Contains (listed_calls t)) (λ line. line.call) t.takes history.order.takes) left.took)

-- ---- ends
pub objects_break : (script : Script) (t other : Transcript) → IsHistory script t → ObjectsChanged t other → ¬ IsHistory script other
objects_break script t other history changed broken =
    changed.differ (broken.replies.objects ∙ ap (λ lines. map_lines script (record t { history = lines })) changed.history ∙ sym history.replies.objects)

pub takes_break : (script : Script) (t other : Transcript) (line : TLine) → IsHistory script t → TakesChanged t other line → ¬ IsHistory script other
takes_break script t other line history changed broken =
    changed.differ (sym (All-contains (AddsUp script other) other.servers line broken.takes changed.stands_there).taken ∙ (All-contains (AddsUp script t) t.servers line history.takes changed.stands).taken)

-- ---- refusals
pub servers_break : (script : Script) (t : Transcript) (call : CallName) (missing : List Triple) → ServersLeftOut script t call missing → ¬ IsHistory script t
servers_break script t call missing left history =
    left.count (All-contains (λ entry. LacksChunks script entry.0 entry.1) (unavailable_calls t) (call, missing) history.missing left.stands).count

pub races_break : (script : Script) (t : Transcript) (line : XLine) (pairs : List (ℕ × ℕ)) → RacesLeftOut script t line pairs → ¬ IsHistory script t
races_break script t line pairs left history =
    by (option_and_then written_name (call_of script line.call))
    (subst (LostRace script t line.call) left.contended (All-contains (λ (one : XLine). LostRace script t one.call one.cause) t.refused line history.races left.stands))
  where
    by : (found : Option (List ℕ)) → IsLoser script t pairs found → ⊥
    by None never = never
    by (Some name) lost = left.count lost.count
