-- What is a history of a script with another schedule is one of the script, where that schedule has its lines.
use Rattle.std.proofs.Common.{◌≡◌, ℕ, ◌+◌, ◌<◌, ◌≤◌, List, [], ◌∷◌, ◌++◌, map, filter, count_by, Option, None, Some, option_and_then, IfSome, All, refl, subst, ◌∙◌}
use Rattle.std.proofs.lemmas.List.Elements.{All-weaker}
use Rattle.store_map.specs.declared.actor.Token.{Token}
use Rattle.store_map.specs.declared.call.Rebuild.{Rebuild}
use Rattle.store_map.specs.declared.script.Script.{Script}
use Rattle.store_map.specs.declared.call_name.ClientCall.{ClientCall}
use Rattle.store_map.specs.declared.call_name.CallName.{CallName}
use Rattle.store_map.specs.declared.call_name.CallName.TheVariants as name
use Rattle.store_map.specs.declared.cause.Cause.{Cause}
use Rattle.store_map.specs.declared.cause.Cause.TheVariants as cause
use Rattle.store_map.specs.declared.cause.RepairResult.{RepairResult}
use Rattle.store_map.specs.declared.cause.RepairResult.TheVariants as result
use Rattle.store_map.specs.declared.line.XLine.{XLine}
use Rattle.store_map.specs.declared.line.RLine.{RLine}
use Rattle.store_map.specs.declared.transcript.Transcript.{Transcript}
use Rattle.hist_rules.specs.First.{AllAfter}
use Rattle.hist_rules.specs.Calls.{number_of, same_actor, calls_of, call_of, rebuild_of}
use Rattle.hist_rules.specs.Counts.{reaps}
use Rattle.hist_rules.specs.Named.{listed_calls}
use Rattle.hist_rules.specs.CallOrder.{KeepsCallOrder}
use Rattle.hist_rules.specs.MapReplies.{HasMapReplies}
use Rattle.hist_rules.specs.GivenUp.{reaped_calls}
use Rattle.hist_rules.specs.GivenUpOrLost.{GivenUp, IsRace, IsLoser, LostRace, LostRaces}
use Rattle.hist_rules.specs.LostRaces.{written_name}
use Rattle.hist_rules.specs.IsHistory.{AddsUp, TakesAddUp}
use Rattle.history_laws.specs.RaceLaws.{NamesChange}
use Rattle.thread_laws.specs.Threaded.{is_line, lines_of}
use Rattle.history_laws.specs.HistoryLaws.{scheduled}
use Rattle.thread_laws.proofs.Lines.{same_wipes, same_reaps}

-- ---- lists
after_weaker : {X : Type 0} (P Q : List X → X → Type 0) → ((before : List X) (x : X) → P before x → Q before x) → (before xs : List X) → AllAfter P before xs → AllAfter Q before xs
after_weaker P Q f before [] h = tt
after_weaker P Q f before (x ∷ xs) h = (f before x h.0, after_weaker P Q f (x ∷ before) xs h.1)

module _ (script : Script) (tokens : List Token) where
  abbrev other : Script
  other = scheduled script tokens

  -- ---- calls are the script's, whatever its schedule
  calls_one : (call : CallName) → calls_of other call ≡ calls_of script call
  calls_one (name.Client call) = refl
  calls_one (name.Repairer call) = refl

  -- ---- so what doesn't count lines is carried over
  pub order_carried : (t : Transcript) → KeepsCallOrder other t → KeepsCallOrder script t
  order_carried t h =
      record {
        there = All-weaker (λ call. number_of call < calls_of other call) (λ call. number_of call < calls_of script call) (λ call less. subst (λ (n : ℕ). number_of call < n) (calls_one call) less) (listed_calls t ++ map (λ line. line.call) t.takes) h.there;
        rising = h.rising;
        answered = h.answered;
        effects = h.effects;
        unanswered = h.unanswered;
        takes = h.takes;
      }

  pub replies_carried : (t : Transcript) → HasMapReplies other t → HasMapReplies script t
  replies_carried t h = record { replies = h.replies; objects = h.objects }

  module _ (t : Transcript) where
    race : (object : List ℕ) (before : List (ℕ × ℕ)) (pair : ℕ × ℕ) → IsRace other t object before pair → IsRace script t object before pair
    race object before pair h =
        record { later = h.later; order = h.order; looked_at = h.looked_at; newer = h.newer }

    loser : (pairs : List (ℕ × ℕ)) (object : Option (List ℕ)) → IsLoser other t pairs object → IsLoser script t pairs object
    loser pairs None h = h
    loser pairs (Some object) h = record { count = h.count; races = after_weaker (IsRace other t object) (IsRace script t object) (race object) [] pairs h.races }

    lost : (call : ClientCall) (why : Cause) → LostRace other t call why → LostRace script t call why
    lost call (cause.Contended pairs) h = loser pairs (option_and_then written_name (call_of script call)) h
    lost call (cause.Unavailable stripe missing) h = tt
    lost call (cause.Reaped point) h = tt
    lost call cause.NoMemory h = tt

    pub races_carried : LostRaces other t → LostRaces script t
    races_carried h = All-weaker (λ (line : XLine). LostRace other t line.call line.cause) (λ line. LostRace script t line.call line.cause) (λ line. lost line.call line.cause) t.refused h

    named : (what : RepairResult) (rebuild : Rebuild) → NamesChange other t what rebuild → NamesChange script t what rebuild
    named (result.Superseded newer) rebuild h = h
    named (result.Unavailable stripe missing) rebuild h = tt
    named (result.Away told) rebuild h = tt
    named result.Rebuilt rebuild h = tt
    named result.Here rebuild h = tt
    named result.NoSuch rebuild h = tt
    named (result.Reaped point) rebuild h = tt
    named result.NoMemory rebuild h = tt

    named_if : (what : RepairResult) (rebuild : Option Rebuild) → IfSome rebuild (NamesChange other t what) → IfSome rebuild (NamesChange script t what)
    named_if what None h = tt
    named_if what (Some rebuild) h = named what rebuild h

    pub changes_carried : All (λ (line : RLine). IfSome (rebuild_of other line.call) (NamesChange other t line.result)) t.repairs → All (λ (line : RLine). IfSome (rebuild_of script line.call) (NamesChange script t line.result)) t.repairs
    changes_carried h =
        All-weaker (λ (line : RLine). IfSome (rebuild_of other line.call) (NamesChange other t line.result)) (λ line. IfSome (rebuild_of script line.call) (NamesChange script t line.result))
        (λ line k. named_if line.result (rebuild_of script line.call) k) t.repairs h

  -- ---- and what counts them, by the lines
  module _ (lines : filter is_line tokens ≡ lines_of script) where
    pub given_up_carried : (t : Transcript) → GivenUp other t → GivenUp script t
    given_up_carried t h =
        after_weaker (λ before call. count_by (same_actor call) before + 1 ≤ reaps other call) (λ before call. count_by (same_actor call) before + 1 ≤ reaps script call)
        (λ before call less. subst (λ (n : ℕ). count_by (same_actor call) before + 1 ≤ n) (same_reaps script tokens lines call) less) [] (reaped_calls t) h

    pub takes_carried : (t : Transcript) → TakesAddUp other t → TakesAddUp script t
    takes_carried t h =
        All-weaker (AddsUp other t) (AddsUp script t) (λ line of. record { taken = of.taken; epoch = of.epoch ∙ same_wipes script tokens lines line.server }) t.servers h
