-- Served calls have their replies.
use Rattle.std.proofs.Common.{◌≡◌, ℕ, zero, suc, true, List, [], ◌∷◌, map, Option, None, Some, option_map, option_and_then, refl, sym, ap, subst, ◌∙◌}
use Rattle.std.proofs.lemmas.Option.{none-some, same_Some, slice_get-map}
use Rattle.std.specs.List.{slice_get}
use Rattle.store_map.specs.declared.script.Script.{Script}
use Rattle.store_core.specs.Act.{Outcome}
use Rattle.store_core.specs.ActPlace.{ActPlace}
use Rattle.store_core.specs.Core.{Core, first_core}
use Rattle.store_core.specs.Directory.{Directory, Point}
use Rattle.store_core.specs.History.{is_answered}
use Rattle.store_core.specs.Work.{Ended, Calling, Work, client_work}
use Rattle.store_map.specs.declared.actor.Token.{Token}
use Rattle.thread_laws.specs.Histories.{Histories, StandTwice, GoOn}
use Rattle.thread_laws.specs.InOrder.{in_order}
use Rattle.thread_laws.specs.Lines.{token_of}
use Rattle.thread_laws.specs.MadeSteps.{MadeStep}
use Rattle.thread_laws.specs.Merging.{EndAs, run_of_steps}
use Rattle.thread_laws.proofs.Merged.{merges}
use Rattle.thread_laws.proofs.Sorting.{sorted}
use Rattle.call_steps.specs.declared.caller_calls.EndedCall.{EndedCall}
use Rattle.call_steps.specs.declared.caller_calls.CallerCalls.{CallerCalls}
use Rattle.call_steps.specs.CallerCalls.{ended_of, calling_at}
use Rattle.world_laws.specs.Served.{outcome_in, outcome_at}
use Rattle.call_steps.specs.CallOutcomes.{call_outcome_of}
use Rattle.history_laws.proofs.ServedPoints.{runs_serve_at_pins}
use Rattle.thread_laws.specs.Owed.{directory_after}
use Rattle.thread_laws.specs.OwedLaws.{IsReply}
use Rattle.thread_laws.proofs.Owing.{owed_are_replies}
use Rattle.thread_laws.specs.Threaded.{lines_of}
use Rattle.clay_grid.specs.Shape.{chunk_count}
use Rattle.world_laws.specs.World.{DoingOf, ActorOf}
use Rattle.world_laws.specs.Known.{calling_by, calling_of, core_of}
use Rattle.world_laws.specs.StandsFor.{AllStand}
use Rattle.world_laws.proofs.Shows.{worlds_show}
use Rattle.thread_laws.specs.Run.{IsRun}
use Rattle.thread_laws.proofs.Runs.{steps_show_runs}
use Rattle.thread_laws.specs.ServedLaws.{OwedAreServed, TranscriptsAreRuns}

-- ---- a call that has ended, in the core that the lists hold
record Found (callings : List Calling) (i number : ℕ) (outcome : Outcome) : Type 0 where
  calling : Calling
  is_calling : slice_get callings i ≡ Some calling
  ended : Ended
  is_ended : slice_get calling.ended number ≡ Some ended
  is_outcome : ended.outcome ≡ outcome

found_at : (servers : ℕ) (clients : List CallerCalls) (i number : ℕ) (outcome : Outcome) → outcome_at clients i number ≡ Some outcome → Found (map (calling_at servers) clients) i number outcome
found_at servers clients i number outcome e = by_client (slice_get clients i) refl e
  where
    by_call : (calls : CallerCalls) → slice_get clients i ≡ Some calls → (found : Option EndedCall) → slice_get calls.ended.items number ≡ found → outcome_in found ≡ Some outcome
        → Found (map (calling_at servers) clients) i number outcome
    by_call calls is_calls None is_found k = absurd (none-some outcome k)
    by_call calls is_calls (Some ended) is_found k =
        record {
          calling = calling_at servers calls;
          is_calling = slice_get-map (calling_at servers) clients i ∙ ap (option_map (calling_at servers)) is_calls;
          ended = ended_of servers ended;
          is_ended = slice_get-map (ended_of servers) calls.ended.items number ∙ ap (option_map (ended_of servers)) is_found;
          is_outcome = same_Some (call_outcome_of ended.outcome) outcome k;
        }

    by_client : (found : Option CallerCalls) → slice_get clients i ≡ found → outcome_in (option_and_then (λ (calls : CallerCalls). slice_get calls.ended.items number) found) ≡ Some outcome
        → Found (map (calling_at servers) clients) i number outcome
    by_client None is_found k = absurd (none-some outcome k)
    by_client (Some calls) is_found k = by_call calls is_found (slice_get calls.ended.items number) refl k

-- ---- the core that a world stands for has the same ended calls
ended_by : (servers : ℕ) (ended : List Ended) (doing : DoingOf) → (calling_by servers ended doing).ended ≡ ended
ended_by servers ended (DoingOf.Between token) = refl
ended_by servers ended (DoingOf.InCall call steps) = refl

record Known (callings : List Calling) (i : ℕ) (ended : List Ended) : Type 0 where
  calling : Calling
  is_calling : slice_get callings i ≡ Some calling
  is_ended : calling.ended ≡ ended

known_at : (script : Script) (works : List Work) (callings : List Calling) (actors : List ActorOf) (i : ℕ) (known : Calling) → AllStand script works callings actors
    → slice_get (map (calling_of script) actors) i ≡ Some known → Known callings i known.ended
known_at script [] [] [] i known all e = absurd (none-some known e)
known_at script (work ∷ works) (calling ∷ callings) (a ∷ actors) zero known all e =
    record {
      calling = calling;
      is_calling = refl;
      is_ended = all.0.ended ∙ (sym (ended_by (chunk_count script.geometry) a.ended a.doing) ∙ ap (λ (c : Calling). c.ended) (same_Some (calling_of script a) known e));
    }
known_at script (work ∷ works) (calling ∷ callings) (a ∷ actors) (suc i) known all e =
    let rest : Known callings i known.ended = known_at script works callings actors i known all.1 e in
    record { calling = rest.calling; is_calling = rest.is_calling; is_ended = rest.is_ended }
known_at script works callings actors i known all e = absurd all

-- the run of the steps in their order
merged : (script : Script) (lines : List Token) (h : Histories) → StandTwice h → GoOn script lines (first_core script) h.at h.of → EndAs script (first_core script) h.at h.of (run_of_steps script (in_order script h))
merged script lines h twice go = merges script lines h (in_order script h) twice go (sorted script h twice lines go)

pub owed_are_served : OwedAreServed
owed_are_served script lines h geometry valid twice go end w ends stands d servers clients repairers holds owed =
    let run : Core = run_of_steps script (in_order script h) in
    let same : EndAs script (first_core script) h.at h.of (run_of_steps script (in_order script h)) = merged script lines h twice go in
    record {
      pins = λ place i point outcome is_point mine pinned is_outcome answered.
          let found : Found (map (calling_at holds.width) clients) i point.number outcome = found_at holds.width clients i point.number outcome is_outcome in
          let known : Known end.clients i found.calling.ended =
          known_at script (client_work script) end.clients w.clients i found.calling stands.clients (ap (λ (l : List Calling). slice_get l i) holds.clients_are ∙ found.is_calling) in
          let is_calling : slice_get run.clients i ≡ Some known.calling = same.clients i ∙ sym (ends.clients i) ∙ known.is_calling in
          let is_ended : slice_get known.calling.ended point.number ≡ Some found.ended = ap (λ (l : List Ended). slice_get l point.number) known.is_ended ∙ found.is_ended in
          let there : slice_get run.directory.points place ≡ Some point = ap (λ (b : Directory). slice_get b.points place) (same.directory ∙ sym ends.directory ∙ (stands.directory ∙ holds.directory)) ∙ is_point in
          sym found.is_outcome
          ∙ runs_serve_at_pins script (map (λ (m : MadeStep). m.shortage) (in_order script h)) geometry valid (map token_of (in_order script h)) place i point known.calling found.ended there mine pinned is_calling is_ended
          (subst (λ (o : Outcome). is_answered o ≡ true) (sym found.is_outcome) answered);
      owed = λ place i number bytes is_outcome is_bytes.
          let there : IsReply script (directory_after script (h.at ActPlace.Directory)).points i number place bytes =
          owed_are_replies script lines h geometry valid twice go i number place bytes (owed i number place bytes is_outcome is_bytes) in
          (subst (λ (ps : List Point). IsReply script ps i number place bytes) (ap (λ (b : Directory). b.points) (sym ends.directory ∙ (stands.directory ∙ holds.directory))) there).reply;
    }

pub transcripts_are_runs : TranscriptsAreRuns
transcripts_are_runs script h end w geometry valid ran stands d servers clients repairers holds owed t made =
    subst (IsRun script)
    (sym (made script (core_of script w) holds (owed_are_served script (lines_of script) h geometry valid ran.twice ran.go end w ran.ends stands d servers clients repairers holds owed)
    ∙ (worlds_show script w).core end stands))
    (steps_show_runs script h end geometry valid ran)
