-- What each step keeps of the trace so far and the core holds at the end of a run.
-- A drain is its rounds' tokens, so a trace is one fold over tokens and every law an induction over steps (drains_are_steps). What a
-- run's core knows of a call is tied to what the trace's steps told it, so an outcome's causes, which speak of a told list, become
-- moments of the trace. An invariant of moments only grows: what happened before a moment has happened at its end (Happened through ++).
use Rattle.std.proofs.Common.{◌≡◌, ℕ, Bool, true, false, List, [], ◌∷◌, ◌++◌, length, Option, None, Some, refl, sym, subst}
use Rattle.std.proofs.lemmas.List.{append_assoc, append-nil}
use Rattle.std.specs.List.{slice_get}
use Rattle.clay_grid.specs.Shape.{chunk_count}
use Rattle.store_map.specs.Limits.{tries_of}
use Rattle.store_map.specs.declared.actor.Actor.TheVariants as actor
use Rattle.store_map.specs.declared.actor.Token.{Token}
use Rattle.store_map.specs.declared.actor.Token.TheVariants as token
use Rattle.store_map.specs.declared.script.Script.{Script}
use Rattle.store_core.specs.Act.{Act, DirectoryStep, ServerStep}
use Rattle.store_core.specs.CallStep.{job_step, step_if, step_of}
use Rattle.store_core.specs.Core.{Core, first_core}
use Rattle.store_core.specs.NextAct.{Job}
use Rattle.store_core.specs.Run.{Run, first_shortage, places_in, after_client, after_repairer, client_step, repairer_step, operator_step}
use Rattle.store_core.specs.Schedule.{step_core, run_tokens, run_core}
use Rattle.store_core.specs.Step.{Shortage, actor_step}
use Rattle.store_core.specs.Sweep.{next_sweep}
use Rattle.store_core.specs.Work.{Calling, Work, client_work, repairer_work, has_step}
use Rattle.run_laws.proofs.Runs.{CanRun, IsOperatorAct}
use Rattle.run_laws.proofs.RunsSound.{RunKeeps, client_kept, repairer_kept, sweeper_kept, operator_kept, first_kept}
use Rattle.history_laws.proofs.Induction.{client_after, repairer_after, operator_after, sweeper_after}
use Rattle.history_laws.specs.Trace.{Made, call_made, job_made, made_if, made_by, act_made, made_of, trace_of}
use Rattle.history_laws.specs.Steps.{steps_of, first_run, run_trace}
use Rattle.history_laws.proofs.Stepwise.{IsStep, AreSteps, steps_flat, drains_are_steps}

-- the operator reaps, empties servers, and makes them away and not away
abbrev pub IsOfOperator : Act → Type 0
IsOfOperator (Act.AtDirectory (DirectoryStep.Reap who)) = Unit {0}
IsOfOperator (Act.AtServer server ServerStep.Wipe) = Unit {0}
IsOfOperator (Act.AtServer server ServerStep.Down) = Unit {0}
IsOfOperator (Act.AtServer server ServerStep.Up) = Unit {0}
IsOfOperator act = ⊥

module _ (script : Script) (can : CanRun script) (P : List Made → Core → Type 0) where
  -- what is kept by each step; the core that it leaves is one of a run again
  pub record KeptByMade : Type 0 where
    pub client :
        (trace : List Made) (core : Core) → RunKeeps script core → P trace core → (i : ℕ) (work : Work) (calling : Calling) (job : Job) →
        slice_get (client_work script) i ≡ Some work → slice_get core.clients i ≡ Some calling → slice_get work.jobs (length calling.ended) ≡ Some job → (shortage : Shortage) →
        RunKeeps script (client_after i core (actor_step script.geometry (tries_of script) shortage (actor.Client i) job calling (places_in core))) →
        P (trace ++ call_made script shortage (actor.Client i) calling (places_in core) job ∷ []) (client_after i core (actor_step script.geometry (tries_of script) shortage (actor.Client i) job calling (places_in core)))
    pub repairer :
        (trace : List Made) (core : Core) → RunKeeps script core → P trace core → (i : ℕ) (work : Work) (calling : Calling) (job : Job) →
        slice_get (repairer_work script) i ≡ Some work → slice_get core.repairers i ≡ Some calling → slice_get work.jobs (length calling.ended) ≡ Some job → (shortage : Shortage) →
        RunKeeps script (repairer_after i core (actor_step script.geometry (tries_of script) shortage (actor.Repairer i) job calling (places_in core))) →
        P (trace ++ call_made script shortage (actor.Repairer i) calling (places_in core) job ∷ []) (repairer_after i core (actor_step script.geometry (tries_of script) shortage (actor.Repairer i) job calling (places_in core)))
    pub sweeper :
        (trace : List Made) (core : Core) → RunKeeps script core → P trace core →
        P (trace ++ act_made actor.Sweeper (next_sweep (chunk_count script.geometry) core.sweeper) (places_in core) ∷ []) (sweeper_after script core)
    pub operator :
        (trace : List Made) (core : Core) → RunKeeps script core → P trace core → (act : Act) → IsOperatorAct act → IsOfOperator act →
        P (trace ++ act_made actor.Operator act (places_in core) ∷ []) (operator_after act core)

  module _ (keeps : KeptByMade) where
    record Has (trace : List Made) (run : Run) : Type 0 where
      state : RunKeeps script run.core
      has : P trace run.core

    -- ---- one step
    still : (trace : List Made) (core : Core) → P trace core → P (trace ++ []) core
    still trace core h = subst (λ (l : List Made). P l core) (sym (append-nil trace)) h

    client_has : (trace : List Made) (run : Run) → Has trace run → (i : ℕ) → Has (trace ++ made_of script (token.Client i) run) (client_step script i run)
    client_has trace run h i =
        record { state = client_kept script can run h.state i; has = found (slice_get (client_work script) i) refl (slice_get run.core.clients i) refl (client_kept script can run h.state i) }
      where
        shortage : Shortage
        shortage = first_shortage run.shortages

        by_job : (work : Work) → slice_get (client_work script) i ≡ Some work → (calling : Calling) → slice_get run.core.clients i ≡ Some calling
            → (job : Option Job) → slice_get work.jobs (length calling.ended) ≡ job → RunKeeps script (after_client i run (job_step script (first_shortage run.shortages) (actor.Client i) calling (places_in run.core) job)).core
            → P (trace ++ job_made script (first_shortage run.shortages) (actor.Client i) calling (places_in run.core) job) (after_client i run (job_step script (first_shortage run.shortages) (actor.Client i) calling (places_in run.core) job)).core
        by_job work is_work calling is_calling None e kept = still trace run.core h.has
        by_job work is_work calling is_calling (Some job) e kept = keeps.client trace run.core h.state h.has i work calling job is_work is_calling e (first_shortage run.shortages) kept

        by : (work : Work) → slice_get (client_work script) i ≡ Some work → (calling : Calling) → slice_get run.core.clients i ≡ Some calling
            → (b : Bool) → RunKeeps script (after_client i run (step_if b script (first_shortage run.shortages) (actor.Client i) work calling (places_in run.core))).core
            → P (trace ++ made_if b script (first_shortage run.shortages) (actor.Client i) work calling (places_in run.core)) (after_client i run (step_if b script (first_shortage run.shortages) (actor.Client i) work calling (places_in run.core))).core
        by work is_work calling is_calling true kept = by_job work is_work calling is_calling (slice_get work.jobs (length calling.ended)) refl kept
        by work is_work calling is_calling false kept = still trace run.core h.has

        found : (work : Option Work) → slice_get (client_work script) i ≡ work → (calling : Option Calling) → slice_get run.core.clients i ≡ calling
            → RunKeeps script (after_client i run (step_of script (first_shortage run.shortages) (actor.Client i) work calling (places_in run.core))).core
            → P (trace ++ made_by script (first_shortage run.shortages) (actor.Client i) work calling (places_in run.core)) (after_client i run (step_of script (first_shortage run.shortages) (actor.Client i) work calling (places_in run.core))).core
        found None e calling k kept = still trace run.core h.has
        found (Some work) e None k kept = still trace run.core h.has
        found (Some work) e (Some calling) k kept = by work e calling k (has_step work calling) kept

    repairer_has : (trace : List Made) (run : Run) → Has trace run → (i : ℕ) → Has (trace ++ made_of script (token.Repairer i) run) (repairer_step script i run)
    repairer_has trace run h i =
        record { state = repairer_kept script can run h.state i; has = found (slice_get (repairer_work script) i) refl (slice_get run.core.repairers i) refl (repairer_kept script can run h.state i) }
      where
        by_job : (work : Work) → slice_get (repairer_work script) i ≡ Some work → (calling : Calling) → slice_get run.core.repairers i ≡ Some calling
            → (job : Option Job) → slice_get work.jobs (length calling.ended) ≡ job → RunKeeps script (after_repairer i run (job_step script (first_shortage run.shortages) (actor.Repairer i) calling (places_in run.core) job)).core
            → P (trace ++ job_made script (first_shortage run.shortages) (actor.Repairer i) calling (places_in run.core) job) (after_repairer i run (job_step script (first_shortage run.shortages) (actor.Repairer i) calling (places_in run.core) job)).core
        by_job work is_work calling is_calling None e kept = still trace run.core h.has
        by_job work is_work calling is_calling (Some job) e kept = keeps.repairer trace run.core h.state h.has i work calling job is_work is_calling e (first_shortage run.shortages) kept

        by : (work : Work) → slice_get (repairer_work script) i ≡ Some work → (calling : Calling) → slice_get run.core.repairers i ≡ Some calling
            → (b : Bool) → RunKeeps script (after_repairer i run (step_if b script (first_shortage run.shortages) (actor.Repairer i) work calling (places_in run.core))).core
            → P (trace ++ made_if b script (first_shortage run.shortages) (actor.Repairer i) work calling (places_in run.core)) (after_repairer i run (step_if b script (first_shortage run.shortages) (actor.Repairer i) work calling (places_in run.core))).core
        by work is_work calling is_calling true kept = by_job work is_work calling is_calling (slice_get work.jobs (length calling.ended)) refl kept
        by work is_work calling is_calling false kept = still trace run.core h.has

        found : (work : Option Work) → slice_get (repairer_work script) i ≡ work → (calling : Option Calling) → slice_get run.core.repairers i ≡ calling
            → RunKeeps script (after_repairer i run (step_of script (first_shortage run.shortages) (actor.Repairer i) work calling (places_in run.core))).core
            → P (trace ++ made_by script (first_shortage run.shortages) (actor.Repairer i) work calling (places_in run.core)) (after_repairer i run (step_of script (first_shortage run.shortages) (actor.Repairer i) work calling (places_in run.core))).core
        found None e calling k kept = still trace run.core h.has
        found (Some work) e None k kept = still trace run.core h.has
        found (Some work) e (Some calling) k kept = by work e calling k (has_step work calling) kept

    operator_has : (trace : List Made) (run : Run) → Has trace run → (act : Act) → IsOperatorAct act → IsOfOperator act → Has (trace ++ act_made actor.Operator act (places_in run.core) ∷ []) (operator_step act run)
    operator_has trace run h act is own = record { state = operator_kept script can run h.state act is; has = keeps.operator trace run.core h.state h.has act is own }

    token_has : (trace : List Made) (next : Token) (run : Run) → IsStep next → Has trace run → Has (trace ++ made_of script next run) (step_core script next run)
    token_has trace (token.Client i) run is h = client_has trace run h i
    token_has trace (token.Repairer i) run is h = repairer_has trace run h i
    token_has trace token.Sweep run is h = record { state = sweeper_kept script can run h.state; has = keeps.sweeper trace run.core h.state h.has }
    token_has trace (token.Wipe server) run is h = operator_has trace run h (Act.AtServer server ServerStep.Wipe) tt tt
    token_has trace (token.Down server) run is h = operator_has trace run h (Act.AtServer server ServerStep.Down) tt tt
    token_has trace (token.Up server) run is h = operator_has trace run h (Act.AtServer server ServerStep.Up) tt tt
    token_has trace (token.ReapClient i) run is h = operator_has trace run h (Act.AtDirectory (DirectoryStep.Reap (actor.Client i))) tt tt
    token_has trace (token.ReapRepairer i) run is h = operator_has trace run h (Act.AtDirectory (DirectoryStep.Reap (actor.Repairer i))) tt tt
    token_has trace token.Drain run is h = absurd is

    all_tokens : (trace : List Made) (tokens : List Token) (run : Run) → AreSteps tokens → Has trace run → Has (trace ++ trace_of script tokens run) (run_tokens script tokens run)
    all_tokens trace [] run flat h = subst (λ (l : List Made). Has l run) (sym (append-nil trace)) h
    all_tokens trace (next ∷ tokens) run flat h =
        subst (λ (l : List Made). Has l (run_tokens script (next ∷ tokens) run)) (append_assoc trace (made_of script next run) (trace_of script tokens (step_core script next run)))
        (all_tokens (trace ++ made_of script next run) tokens (step_core script next run) flat.1 (token_has trace next run flat.0 h))

    -- what the first core has and each step keeps, the core at the end of a run has of its trace
    pub run_traced : (shortages : List Shortage) → P [] (first_core script) → (tokens : List Token) → RunKeeps script (run_core script shortages tokens) × P (run_trace script shortages tokens) (run_core script shortages tokens)
    run_traced shortages first tokens =
        let start : Run = first_run script shortages in
        let end : Has (run_trace script shortages tokens) (run_tokens script (steps_of script tokens start) start) =
        all_tokens [] (steps_of script tokens start) start (steps_flat script tokens start) (record { state = first_kept script can; has = first }) in
        let same : run_tokens script (steps_of script tokens start) start ≡ run_tokens script tokens start = drains_are_steps script tokens start in
        (subst (λ (r : Run). RunKeeps script r.core) same end.state, subst (λ (r : Run). P (run_trace script shortages tokens) r.core) same end.has)
