-- What every step of a run keeps holds at its end, also after drains.
-- One induction over steps (Induction.KeptBySteps: what each of seven kinds of step keeps holds at the end of a run, also after drains),
-- used once a law: points are of calls of the script and replay to the map's replies; a pass that was reaped is told of once; a client's
-- point with a reply is of an answered call, a commit's of one that is answered or only settles from then on (what it was told is its
-- versions, its commit and settles); each call that has ended has its line, so the answered calls of an actor are its first ones; takes
-- are sums that saturate on both sides, and a call takes at most 2^10 subchunks in each of at most 2^29 steps; told races are changes of
-- the object, since a write's base is the last change when it looks and its commit is told the last change then.
use Rattle.std.proofs.Common.{◌≡◌, ℕ, zero, suc, ◌+◌, Bool, true, false, List, [], ◌∷◌, ◌++◌, length, fold, Option, None, Some, refl, sym, subst}
use Rattle.std.proofs.lemmas.List.{append_assoc, append-nil}
use Rattle.std.specs.List.{range_with_len, slice_get}
use Rattle.clay_grid.specs.Shape.{chunk_count}
use Rattle.store_map.specs.Limits.{tries_of}
use Rattle.store_map.specs.declared.actor.Actor.TheVariants as actor
use Rattle.store_map.specs.declared.actor.Token.{Token}
use Rattle.store_map.specs.declared.actor.Token.TheVariants as token
use Rattle.store_map.specs.declared.script.Script.{Script}
use Rattle.store_core.specs.Act.{Act, DirectoryStep, ServerStep}
use Rattle.store_core.specs.CallStep.{job_step, step_if, step_of}
use Rattle.store_core.specs.Core.{Core, first_core, sweeper_has_step}
use Rattle.store_core.specs.Lists.{change_at}
use Rattle.store_core.specs.NextAct.{Job}
use Rattle.store_core.specs.Run.{Run, first_shortage, places_in, with_places, after_client, after_repairer, client_step, repairer_step, sweeper_step}
use Rattle.store_core.specs.Fuel.{fuel_of}
use Rattle.store_core.specs.Schedule.{is_unfinished, sweep_if, round, drain_by, drain, step_core, run_tokens, run_core}
use Rattle.store_core.specs.Step.{Shortage, Places, actor_step, at_places}
use Rattle.store_core.specs.Sweep.{next_sweep, after_sweep}
use Rattle.store_core.specs.Work.{Calling, Work, client_work, repairer_work, has_step}
use Rattle.run_laws.proofs.Runs.{CanRun}
use Rattle.run_laws.proofs.RunsSound.{RunKeeps, client_kept, repairer_kept, sweeper_kept, operator_kept, first_kept}

-- a core after a step of a client
abbrev pub client_after : ℕ → Core → Places × Calling → Core
client_after i core after = with_places after.0 (record core { clients = change_at i (λ _. after.1) core.clients })

-- of a repairer
abbrev pub repairer_after : ℕ → Core → Places × Calling → Core
repairer_after i core after = with_places after.0 (record core { repairers = change_at i (λ _. after.1) core.repairers })

-- of the operator
abbrev pub operator_after : Act → Core → Core
operator_after act core = with_places (at_places false actor.Operator 0 act (places_in core)).0 core

-- of the sweeper
abbrev pub sweeper_after : Script → Core → Core
sweeper_after script core =
    let n : ℕ = chunk_count script.geometry in
    let after : Places × _ = at_places false actor.Sweeper 0 (next_sweep n core.sweeper) (places_in core) in
    with_places after.0 (record core { sweeper = after_sweep n core.sweeper after.1 })

-- a token that is no line of the operator
abbrev pub IsQuiet : Token → Type 0
IsQuiet (token.Wipe server) = ⊥
IsQuiet (token.Down server) = ⊥
IsQuiet (token.Up server) = ⊥
IsQuiet (token.ReapClient i) = ⊥
IsQuiet (token.ReapRepairer i) = ⊥
IsQuiet _ = Unit {0}

module _ (script : Script) (can : CanRun script) (P : List Token → Core → Type 0) where
  -- what is kept by each step, where the operator's lines so far are known
  pub record KeptBySteps : Type 0 where
    pub quiet : (past : List Token) (next : Token) (core : Core) → IsQuiet next → P past core → P (past ++ next ∷ []) core
    pub client :
        (past : List Token) (core : Core) → RunKeeps script core → P past core → (i : ℕ) (work : Work) (calling : Calling) (job : Job) →
        slice_get (client_work script) i ≡ Some work → slice_get core.clients i ≡ Some calling → slice_get work.jobs (length calling.ended) ≡ Some job → (shortages : Shortage) →
        P past (client_after i core (actor_step script.geometry (tries_of script) shortages (actor.Client i) job calling (places_in core)))
    pub repairer :
        (past : List Token) (core : Core) → RunKeeps script core → P past core → (i : ℕ) (work : Work) (calling : Calling) (job : Job) →
        slice_get (repairer_work script) i ≡ Some work → slice_get core.repairers i ≡ Some calling → slice_get work.jobs (length calling.ended) ≡ Some job → (shortages : Shortage) →
        P past (repairer_after i core (actor_step script.geometry (tries_of script) shortages (actor.Repairer i) job calling (places_in core)))
    pub sweeper : (past : List Token) (core : Core) → RunKeeps script core → P past core → P past (sweeper_after script core)
    pub wipe : (past : List Token) (core : Core) → RunKeeps script core → P past core → (server : ℕ) → P (past ++ token.Wipe server ∷ []) (operator_after (Act.AtServer server ServerStep.Wipe) core)
    pub down : (past : List Token) (core : Core) → RunKeeps script core → P past core → (server : ℕ) → P (past ++ token.Down server ∷ []) (operator_after (Act.AtServer server ServerStep.Down) core)
    pub up : (past : List Token) (core : Core) → RunKeeps script core → P past core → (server : ℕ) → P (past ++ token.Up server ∷ []) (operator_after (Act.AtServer server ServerStep.Up) core)
    pub reap_client :
        (past : List Token) (core : Core) → RunKeeps script core → P past core → (i : ℕ) →
        P (past ++ token.ReapClient i ∷ []) (operator_after (Act.AtDirectory (DirectoryStep.Reap (actor.Client i))) core)
    pub reap_repairer :
        (past : List Token) (core : Core) → RunKeeps script core → P past core → (i : ℕ) →
        P (past ++ token.ReapRepairer i ∷ []) (operator_after (Act.AtDirectory (DirectoryStep.Reap (actor.Repairer i))) core)

  module _ (keeps : KeptBySteps) where
    -- a run whose core has it
    record Has (past : List Token) (run : Run) : Type 0 where
      state : RunKeeps script run.core
      has : P past run.core

    -- ---- one step
    client_has : (past : List Token) (run : Run) → Has past run → (i : ℕ) → Has past (client_step script i run)
    client_has past run h i =
        record { state = client_kept script can run h.state i; has = found (slice_get (client_work script) i) refl (slice_get run.core.clients i) refl }
      where
        by_job : (work : Work) → slice_get (client_work script) i ≡ Some work → (calling : Calling) → slice_get run.core.clients i ≡ Some calling
            → (job : Option Job) → slice_get work.jobs (length calling.ended) ≡ job → P past (after_client i run (job_step script (first_shortage run.shortages) (actor.Client i) calling (places_in run.core) job)).core
        by_job work is_work calling is_calling None e = h.has
        by_job work is_work calling is_calling (Some job) e = keeps.client past run.core h.state h.has i work calling job is_work is_calling e (first_shortage run.shortages)

        by : (work : Work) → slice_get (client_work script) i ≡ Some work → (calling : Calling) → slice_get run.core.clients i ≡ Some calling
            → (b : Bool) → P past (after_client i run (step_if b script (first_shortage run.shortages) (actor.Client i) work calling (places_in run.core))).core
        by work is_work calling is_calling true = by_job work is_work calling is_calling (slice_get work.jobs (length calling.ended)) refl
        by work is_work calling is_calling false = h.has

        found : (work : Option Work) → slice_get (client_work script) i ≡ work → (calling : Option Calling) → slice_get run.core.clients i ≡ calling
            → P past (after_client i run (step_of script (first_shortage run.shortages) (actor.Client i) work calling (places_in run.core))).core
        found None e calling k = h.has
        found (Some work) e None k = h.has
        found (Some work) e (Some calling) k = by work e calling k (has_step work calling)

    repairer_has : (past : List Token) (run : Run) → Has past run → (i : ℕ) → Has past (repairer_step script i run)
    repairer_has past run h i =
        record { state = repairer_kept script can run h.state i; has = found (slice_get (repairer_work script) i) refl (slice_get run.core.repairers i) refl }
      where
        by_job : (work : Work) → slice_get (repairer_work script) i ≡ Some work → (calling : Calling) → slice_get run.core.repairers i ≡ Some calling
            → (job : Option Job) → slice_get work.jobs (length calling.ended) ≡ job → P past (after_repairer i run (job_step script (first_shortage run.shortages) (actor.Repairer i) calling (places_in run.core) job)).core
        by_job work is_work calling is_calling None e = h.has
        by_job work is_work calling is_calling (Some job) e = keeps.repairer past run.core h.state h.has i work calling job is_work is_calling e (first_shortage run.shortages)

        by : (work : Work) → slice_get (repairer_work script) i ≡ Some work → (calling : Calling) → slice_get run.core.repairers i ≡ Some calling
            → (b : Bool) → P past (after_repairer i run (step_if b script (first_shortage run.shortages) (actor.Repairer i) work calling (places_in run.core))).core
        by work is_work calling is_calling true = by_job work is_work calling is_calling (slice_get work.jobs (length calling.ended)) refl
        by work is_work calling is_calling false = h.has

        found : (work : Option Work) → slice_get (repairer_work script) i ≡ work → (calling : Option Calling) → slice_get run.core.repairers i ≡ calling
            → P past (after_repairer i run (step_of script (first_shortage run.shortages) (actor.Repairer i) work calling (places_in run.core))).core
        found None e calling k = h.has
        found (Some work) e None k = h.has
        found (Some work) e (Some calling) k = by work e calling k (has_step work calling)

    sweeper_has : (past : List Token) (run : Run) → Has past run → Has past (sweeper_step script run)
    sweeper_has past run h = record { state = sweeper_kept script can run h.state; has = keeps.sweeper past run.core h.state h.has }

    -- ---- a drain
    all_have : (step : ℕ → Run → Run) (past : List Token) → ((run : Run) → Has past run → (i : ℕ) → Has past (step i run))
        → (a k : ℕ) (run : Run) → Has past run → Has past (fold (λ r i. step i r) run (range_with_len a k))
    all_have step past each a zero run h = h
    all_have step past each a (suc k) run h = all_have step past each (a + 1) k (step a run) (each run h a)

    sweep_has : (past : List Token) (run : Run) (b : Bool) → Has past run → Has past (sweep_if b script run)
    sweep_has past run true h = sweeper_has past run h
    sweep_has past run false h = h

    round_has : (past : List Token) (run : Run) → Has past run → Has past (round script run)
    round_has past run h =
        let clients : Run = fold (λ r i. client_step script i r) run (range_with_len 0 (length script.clients)) in
        let late : Run = fold (λ r i. repairer_step script i r) clients (range_with_len 0 (length script.repairers)) in
        sweep_has past late (sweeper_has_step late.core)
        (all_have (repairer_step script) past (repairer_has past) 0 (length script.repairers) clients
        (all_have (client_step script) past (client_has past) 0 (length script.clients) run h))

    drain_has : (past : List Token) (fuel : ℕ) (run : Run) → Has past run → Has past (drain_by fuel script run)
    drain_has past zero run h = h
    drain_has past (suc fuel) run h = by (drain_has past fuel (round script run) (round_has past run h)) (is_unfinished script run.core)
      where
        by : Has past (drain_by fuel script (round script run)) → (b : Bool) → Has past (elim b [ true ↦ drain_by fuel script (round script run) | false ↦ run ])
        by rest true = rest
        by rest false = h

    -- ---- any tokens
    quietly : (past : List Token) (next : Token) (run : Run) → IsQuiet next → Has past run → Has (past ++ next ∷ []) run
    quietly past next run is_quiet h = record { state = h.state; has = keeps.quiet past next run.core is_quiet h.has }

    token_has : (past : List Token) (next : Token) (run : Run) → Has past run → Has (past ++ next ∷ []) (step_core script next run)
    token_has past (token.Client i) run h = quietly past (token.Client i) (client_step script i run) tt (client_has past run h i)
    token_has past (token.Repairer i) run h = quietly past (token.Repairer i) (repairer_step script i run) tt (repairer_has past run h i)
    token_has past token.Sweep run h = quietly past token.Sweep (sweeper_step script run) tt (sweeper_has past run h)
    token_has past (token.Wipe server) run h =
        record { state = operator_kept script can run h.state (Act.AtServer server ServerStep.Wipe) tt; has = keeps.wipe past run.core h.state h.has server }
    token_has past (token.Down server) run h =
        record { state = operator_kept script can run h.state (Act.AtServer server ServerStep.Down) tt; has = keeps.down past run.core h.state h.has server }
    token_has past (token.Up server) run h =
        record { state = operator_kept script can run h.state (Act.AtServer server ServerStep.Up) tt; has = keeps.up past run.core h.state h.has server }
    token_has past (token.ReapClient i) run h =
        record { state = operator_kept script can run h.state (Act.AtDirectory (DirectoryStep.Reap (actor.Client i))) tt; has = keeps.reap_client past run.core h.state h.has i }
    token_has past (token.ReapRepairer i) run h =
        record { state = operator_kept script can run h.state (Act.AtDirectory (DirectoryStep.Reap (actor.Repairer i))) tt; has = keeps.reap_repairer past run.core h.state h.has i }
    token_has past token.Drain run h = quietly past token.Drain (drain script run) tt (drain_has past (fuel_of script run.core) run h)

    all_tokens : (past tokens : List Token) (run : Run) → Has past run → Has (past ++ tokens) (run_tokens script tokens run)
    all_tokens past [] run h = subst (λ (l : List Token). Has l run) (sym (append-nil past)) h
    all_tokens past (next ∷ tokens) run h =
        subst (λ (l : List Token). Has l (run_tokens script (next ∷ tokens) run)) (append_assoc past (next ∷ []) tokens)
        (all_tokens (past ++ next ∷ []) tokens (step_core script next run) (token_has past next run h))

    -- what the first core has and each step keeps, the core at the end of a run has, beside what every run's core has
    pub run_has : (shortages : List Shortage) → P [] (first_core script) → (tokens : List Token) → RunKeeps script (run_core script shortages tokens) × P tokens (run_core script shortages tokens)
    run_has shortages first tokens =
        let start : Run = record { core = first_core script; shortages = shortages } in
        let end : Has tokens (run_tokens script tokens start) = all_tokens [] tokens start (record { state = first_kept script can; has = first }) in
        (end.state, end.has)
