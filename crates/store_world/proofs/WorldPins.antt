-- The calls that a world holds ended as those of the core that it stands for.
use Rattle.std.proofs.Common.{◌≡◌, ℕ, zero, suc, true, List, [], ◌∷◌, map, Option, None, Some, refl, sym, ap, subst, ◌∙◌}
use Rattle.std.proofs.lemmas.Option.{none-some, same_Some, slice_get-map}
use Rattle.std.specs.List.{slice_get}
use Rattle.std.specs.Prelude.{option_map, option_and_then}
use Rattle.clay_grid.specs.Shape.{chunk_count}
use Rattle.store_map.specs.declared.script.Script.{Script}
use Rattle.store_core.specs.Act.{Outcome as CoreOutcome}
use Rattle.store_core.specs.Core.{Core}
use Rattle.store_core.specs.Directory.{Directory}
use Rattle.store_core.specs.History.{is_answered}
use Rattle.store_core.specs.Schedule.{run_core}
use Rattle.store_core.specs.Work.{Ended, Work, Calling, client_work}
use Rattle.world_laws.specs.World.{DoingOf, ActorOf}
use Rattle.world_laws.specs.Known.{calling_by, calling_of}
use Rattle.world_laws.specs.StandsFor.{AllStand, StandsFor}
use Rattle.world_laws.proofs.Runs.{runs_reach}
use Rattle.call_steps.specs.declared.caller_calls.EndedCall.{EndedCall}
use Rattle.call_steps.specs.declared.caller_calls.CallerCalls.{CallerCalls}
use Rattle.call_steps.specs.CallerCalls.{ended_of, calling_at}
use Rattle.world_laws.specs.Served.{outcome_in, outcome_at}
use Rattle.store_world.specs.WorldPins.{WorldsServeAtPins}
use Rattle.history_laws.proofs.ServedPoints.{runs_serve_at_pins}

-- ---- a call that has ended, by its actor and number
abbrev ended_in : List Calling → ℕ → ℕ → Option Ended
ended_in callings i number = option_and_then (λ (c : Calling). slice_get c.ended number) (slice_get callings i)

-- the world's are the core's
module _ (script : Script) where
  kept : (servers : ℕ) (ended : List Ended) (doing : DoingOf) → (calling_by servers ended doing).ended ≡ ended
  kept servers ended (DoingOf.Between token) = refl
  kept servers ended (DoingOf.InCall call steps) = refl

  world_ended : (works : List Work) (callings : List Calling) (actors : List ActorOf) (i number : ℕ) → AllStand script works callings actors → ended_in callings i number ≡ ended_in (map (calling_of script) actors) i number
  world_ended [] [] [] i number all = refl
  world_ended (work ∷ works) (calling ∷ callings) (a ∷ actors) zero number all =
      ap (λ (l : List Ended). slice_get l number) (all.0.ended ∙ sym (kept (chunk_count script.geometry) a.ended a.doing))
  world_ended (work ∷ works) (calling ∷ callings) (a ∷ actors) (suc i) number all = world_ended works callings actors i number all.1
  world_ended works callings actors i number all = absurd all

-- and so are those of the lists
outcome_of_ended : Option Ended → Option CoreOutcome
outcome_of_ended found = option_map (λ (e : Ended). e.outcome) found

list_ended : (servers : ℕ) (clients : List CallerCalls) (i number : ℕ) → outcome_of_ended (ended_in (map (calling_at servers) clients) i number) ≡ outcome_at clients i number
unfolding outcome_of_ended
list_ended servers clients i number =
    ap (λ found. outcome_of_ended (option_and_then (λ (c : Calling). slice_get c.ended number) found)) (slice_get-map (calling_at servers) clients i) ∙ by_client (slice_get clients i)
  where
    by_call : (found : Option EndedCall) → outcome_of_ended (option_map (ended_of servers) found) ≡ outcome_in found
    by_call None = refl
    by_call (Some ended) = refl

    by_client : (found : Option CallerCalls) → outcome_of_ended (option_and_then (λ (c : Calling). slice_get c.ended number) (option_map (calling_at servers) found))
        ≡ outcome_in (option_and_then (λ (calls : CallerCalls). slice_get calls.ended.items number) found)
    by_client None = refl
    by_client (Some calls) = ap outcome_of_ended (slice_get-map (ended_of servers) calls.ended.items number) ∙ by_call (slice_get calls.ended.items number)

-- ---- a call that is found
record Found (callings : List Calling) (i number : ℕ) (outcome : CoreOutcome) : Type 0 where
  calling : Calling
  is_calling : slice_get callings i ≡ Some calling
  ended : Ended
  is_ended : slice_get calling.ended number ≡ Some ended
  is_outcome : ended.outcome ≡ outcome

found_at : (callings : List Calling) (i number : ℕ) (outcome : CoreOutcome) → outcome_of_ended (ended_in callings i number) ≡ Some outcome → Found callings i number outcome
unfolding outcome_of_ended
found_at callings i number outcome e = by_calling (slice_get callings i) refl e
  where
    by_ended : (calling : Calling) → slice_get callings i ≡ Some calling → (found : Option Ended) → slice_get calling.ended number ≡ found → outcome_of_ended found ≡ Some outcome → Found callings i number outcome
    by_ended calling is_calling None is_found k = absurd (none-some outcome k)
    by_ended calling is_calling (Some ended) is_found k =
        record { calling = calling; is_calling = is_calling; ended = ended; is_ended = is_found; is_outcome = same_Some ended.outcome outcome k }

    by_calling : (found : Option Calling) → slice_get callings i ≡ found → outcome_of_ended (option_and_then (λ (c : Calling). slice_get c.ended number) found) ≡ Some outcome → Found callings i number outcome
    by_calling None is_found k = absurd (none-some outcome k)
    by_calling (Some calling) is_found k = by_ended calling is_found (slice_get calling.ended number) refl k

pub worlds_serve_at_pins : WorldsServeAtPins
worlds_serve_at_pins script w geometry valid reached d servers clients repairers holds place i point outcome is_point mine pinned is_outcome answered =
    let core : Core = run_core script reached.by.shortages reached.tokens in
    let stands : StandsFor script w core = (runs_reach script).core reached.tokens w reached.by.shortages reached.by.reaches in
    let same : ended_in core.clients i point.number ≡ ended_in (map (calling_at holds.width) clients) i point.number =
    world_ended script (client_work script) core.clients w.clients i point.number stands.clients ∙ ap (λ (l : List Calling). ended_in l i point.number) holds.clients_are in
    let found : Found core.clients i point.number outcome =
    found_at core.clients i point.number outcome (ap outcome_of_ended same ∙ list_ended holds.width clients i point.number ∙ is_outcome) in
    let there : slice_get core.directory.points place ≡ Some point = ap (λ (b : Directory). slice_get b.points place) (stands.directory ∙ holds.directory) ∙ is_point in
    sym found.is_outcome
    ∙ runs_serve_at_pins script reached.by.shortages geometry valid reached.tokens place i point found.calling found.ended there mine pinned found.is_calling found.is_ended
    (subst (λ (o : CoreOutcome). is_answered o ≡ true) (sym found.is_outcome) answered)
