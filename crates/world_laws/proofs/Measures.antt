-- No token raises the measure of what may yet be done; so no drain makes more rounds than the first core's fuel.
use Rattle.std.proofs.Common.{◌≡◌, ℕ, zero, suc, ◌+◌, ◌*◌, ◌<◌, ◌≤◌, Bool, true, false, List, [], ◌∷◌, length, Option, None, Some, is_some, refl, sym, ap, ◌∙◌, inl, inr, ◌⊎◌, arith, true≢false, mul-le-mul_left}
use Rattle.std.proofs.lemmas.Bool.{or_parts}
use Rattle.std.specs.List.{slice_get}
use Rattle.clay_grid.specs.Shape.{chunk_count}
use Rattle.store_map.specs.declared.script.Script.{Script}
use Rattle.store_map.specs.declared.actor.Actor.{Actor}
use Rattle.store_map.specs.declared.actor.Actor.TheVariants as actor
use Rattle.store_map.specs.declared.actor.Token.{Token}
use Rattle.store_map.specs.declared.actor.Token.TheVariants as token
use Rattle.store_core.specs.Act.{Act, DirectoryStep, ServerStep}
use Rattle.store_core.specs.AtDirectory.{take_garbage, reap_pass, reap}
use Rattle.store_core.specs.Bounds.{sweep_bound}
use Rattle.store_core.specs.Core.{Core, first_core, sweeper_has_step}
use Rattle.store_core.specs.Directory.{Pass, Directory}
use Rattle.store_core.specs.Fuel.{fuel_of}
use Rattle.store_core.specs.Lookups.{pass_of, first_garbage}
use Rattle.store_core.specs.PlaceLaws.{new_versions}
use Rattle.store_core.specs.Run.{Run, places_in, with_places, operator_step, sweeper_step, client_step, repairer_step}
use Rattle.store_core.specs.Schedule.{is_unfinished, round, drain_by, step_core, run_tokens}
use Rattle.store_core.specs.Server.{Server}
use Rattle.store_core.specs.Step.{Shortage, at_places, at_server_there}
use Rattle.store_core.specs.Sweep.{Sweeper, is_busy, next_sweep, after_sweep}
use Rattle.store_core.specs.Work.{client_work, repairer_work}
use Rattle.run_laws.specs.RoundLaws.{rounds}
use Rattle.run_laws.specs.SweepLaws.{sweep_left}
use Rattle.run_laws.proofs.LiveVersions.{live_count, sound_live, counts_move}
use Rattle.run_laws.proofs.Groups.{group_steps, group_draws}
use Rattle.run_laws.proofs.Runs.{CanRun, measure, Progress, client_progress, repairer_progress, sweeper_lowers}
use Rattle.run_laws.proofs.RunsSound.{RunKeeps, first_kept}
use Rattle.run_laws.proofs.Drains.{round_moves, round_state, token_state, run_state}
use Rattle.run_laws.proofs.Scripts.{first_keeps, measure_fits}
use Rattle.world_laws.proofs.Ends.{round_idle}

-- ---- one step
progress_low : (script : Script) {idle : Type 0} (before after : Run) → Progress script before after idle → measure script after.core ≤ measure script before.core
progress_low script before after (inl lowers) =
    let a : ℕ = measure script after.core in
    let b : ℕ = measure script before.core in
    let less : a < b = lowers.lower in
    omega (arith, less)
progress_low script before after (inr same) =
    let a : ℕ = measure script after.core in
    let b : ℕ = measure script before.core in
    let e : a ≡ b = ap (λ (r : Run). measure script r.core) same.0 in
    omega (arith, e)

-- a reap makes no version live
reap_none : (pass : Pass) (reaped : Option ℕ) (d : Directory) → length (new_versions (reap_pass pass reaped d).1) ≡ 0
reap_none pass None d = refl
reap_none pass (Some point) d = refl

none_new : (found : Option Pass) (d : Directory) → length (new_versions (reap found d).1) ≡ 0
none_new None d = refl
none_new (Some pass) d = reap_none pass pass.reaped d

module _ (script : Script) (can : CanRun script) where
  -- where the sweeper has no step, its step changes nothing
  idle_same : (core : Core) (sweeper : Sweeper) → core.sweeper ≡ sweeper → is_busy sweeper ≡ false → (found : Option ℕ) → first_garbage core.directory ≡ found → is_some found ≡ false
      → measure script (sweeper_step script (record { core = core; shortages = [] })).core ≡ measure script core
  idle_same core (Sweeper.Sweeping version server) is idle found garbage none = absurd (true≢false idle)
  idle_same core Sweeper.Idle is idle (Some version) garbage none = absurd (true≢false none)
  idle_same core Sweeper.Idle is idle None garbage none =
      let n : ℕ = chunk_count script.geometry in
      let by : Sweeper → Core = λ s.
      with_places (at_places false actor.Sweeper 0 (next_sweep n s) (places_in core)).0
      (record core { sweeper = after_sweep n s (at_places false actor.Sweeper 0 (next_sweep n s) (places_in core)).1 }) in
      let taken : Option ℕ → Core = λ found. record core { directory = (take_garbage found core.directory).0; sweeper = after_sweep n Sweeper.Idle (take_garbage found core.directory).1 } in
      ap (λ (s : Sweeper). measure script (by s)) is ∙ ap (λ (found : Option ℕ). measure script (taken found)) garbage ∙ ap (λ (s : Sweeper). measure script (record core { sweeper = s })) (sym is)

  sweeper_low : (core : Core) → RunKeeps script core → (b : Bool) → sweeper_has_step core ≡ b → measure script (sweeper_step script (record { core = core; shortages = [] })).core ≤ measure script core
  sweeper_low core state true has =
      let a : ℕ = measure script (sweeper_step script (record { core = core; shortages = [] })).core in
      let b : ℕ = measure script core in
      let less : a < b = sweeper_lowers script core state.keeps state.sound has in
      omega (arith, less)
  sweeper_low core state false none =
      let parts : (is_busy core.sweeper ≡ false) × (is_some (first_garbage core.directory) ≡ false) = or_parts (is_busy core.sweeper) (is_some (first_garbage core.directory)) none in
      let a : ℕ = measure script (sweeper_step script (record { core = core; shortages = [] })).core in
      let b : ℕ = measure script core in
      let e : a ≡ b = idle_same core core.sweeper refl parts.0 (first_garbage core.directory) refl parts.1 in
      omega (arith, e)

  -- the operator at a server, and the reap of a pass
  server_same : (core : Core) (server : ℕ) (step : ServerStep) (found : Option Server) → measure script (with_places (at_server_there false server step (places_in core) found).0 core) ≡ measure script core
  server_same core server step None = refl
  server_same core server step (Some s) = refl

  server_low : (core : Core) (server : ℕ) (step : ServerStep) → measure script (operator_step (Act.AtServer server step) (record { core = core; shortages = [] })).core ≤ measure script core
  server_low core server step =
      let a : ℕ = measure script (operator_step (Act.AtServer server step) (record { core = core; shortages = [] })).core in
      let b : ℕ = measure script core in
      let e : a ≡ b = server_same core server step (slice_get core.servers server) in
      omega (arith, e)

  fewer_live : (steps sweeps live live_now draws left : ℕ) → live_now ≤ live → steps + sweeps * (live_now + draws) + left ≤ steps + sweeps * (live + draws) + left
  fewer_live steps sweeps live live_now draws left low =
      let sum : live_now + draws ≤ live + draws = omega (arith, low) in
      let product : sweeps * (live_now + draws) ≤ sweeps * (live + draws) = mul-le-mul_left sweeps sum in
      omega (arith, product)

  reap_low : (core : Core) → RunKeeps script core → (who : Actor) → measure script (operator_step (Act.AtDirectory (DirectoryStep.Reap who)) (record { core = core; shortages = [] })).core ≤ measure script core
  reap_low core state who =
      let after : Directory = (reap (pass_of who core.directory) core.directory).0 in
      let counts : live_count after.versions ≤ live_count core.directory.versions + length (new_versions (reap (pass_of who core.directory) core.directory).1) =
      counts_move core.directory (sound_live core.directory state.sound) false actor.Operator 0 (DirectoryStep.Reap who) in
      let none : length (new_versions (reap (pass_of who core.directory) core.directory).1) ≡ 0 = none_new (pass_of who core.directory) core.directory in
      let a : ℕ = live_count after.versions in
      let b : ℕ = live_count core.directory.versions in
      let c : ℕ = length (new_versions (reap (pass_of who core.directory) core.directory).1) in
      let counted : a ≤ b + c = counts in
      let nothing : c ≡ 0 = none in
      fewer_live (group_steps script (client_work script) core.clients + group_steps script (repairer_work script) core.repairers) (sweep_bound script.geometry) b a
      (group_draws script (client_work script) core.clients + group_draws script (repairer_work script) core.repairers) (sweep_left (chunk_count script.geometry) core.sweeper) (omega (arith, counted, nothing))

  -- ---- tokens
  module _ (shortages : List Shortage) where
    round_low : (run : Run) → RunKeeps script run.core → measure script (round script run).core ≤ measure script run.core
    round_low run state = by (round_moves script shortages can run state)
      where
        by : (measure script (round script run).core < measure script run.core) ⊎ ((round script run ≡ run) × (is_unfinished script run.core ≡ false)) → measure script (round script run).core ≤ measure script run.core
        by (inl less) =
            let a : ℕ = measure script (round script run).core in
            let b : ℕ = measure script run.core in
            let below : a < b = less in
            omega (arith, below)
        by (inr same) =
            let a : ℕ = measure script (round script run).core in
            let b : ℕ = measure script run.core in
            let e : a ≡ b = ap (λ (r : Run). measure script r.core) same.0 in
            omega (arith, e)

    drain_low : (fuel : ℕ) (run : Run) → RunKeeps script run.core → measure script (drain_by fuel script run).core ≤ measure script run.core
    drain_low zero run state = let a : ℕ = measure script run.core in let same : a ≤ a = omega arith in same
    drain_low (suc fuel) run state = by (is_unfinished script run.core) (drain_low fuel (round script run) (round_state script shortages can run state))
      where
        by : (b : Bool) → measure script (drain_by fuel script (round script run)).core ≤ measure script (round script run).core
            → let after : Run = elim b [ true ↦ drain_by fuel script (round script run) | false ↦ run ] in measure script after.core ≤ measure script run.core
        by true rest =
            let a : ℕ = measure script (drain_by fuel script (round script run)).core in
            let b : ℕ = measure script (round script run).core in
            let c : ℕ = measure script run.core in
            let low : a ≤ b = rest in
            let first : b ≤ c = round_low run state in
            omega (arith, low, first)
        by false rest = let a : ℕ = measure script run.core in let same : a ≤ a = omega arith in same

    token_low : (t : Token) (run : Run) → RunKeeps script run.core → measure script (step_core script t run).core ≤ measure script run.core
    token_low (token.Client i) run state = progress_low script run (client_step script i run) (client_progress script can run state.keeps state.sound i)
    token_low (token.Repairer i) run state = progress_low script run (repairer_step script i run) (repairer_progress script can run state.keeps state.sound i)
    token_low token.Sweep run state = sweeper_low run.core state (sweeper_has_step run.core) refl
    token_low (token.Wipe server) run state = server_low run.core server ServerStep.Wipe
    token_low (token.Down server) run state = server_low run.core server ServerStep.Down
    token_low (token.Up server) run state = server_low run.core server ServerStep.Up
    token_low (token.ReapClient i) run state = reap_low run.core state (actor.Client i)
    token_low (token.ReapRepairer i) run state = reap_low run.core state (actor.Repairer i)
    token_low token.Drain run state = drain_low (fuel_of script run.core) run state

    tokens_low : (tokens : List Token) (run : Run) → RunKeeps script run.core → measure script (run_tokens script tokens run).core ≤ measure script run.core
    tokens_low [] run state = let a : ℕ = measure script run.core in let same : a ≤ a = omega arith in same
    tokens_low (t ∷ tokens) run state =
        let a : ℕ = measure script (run_tokens script tokens (step_core script t run)).core in
        let b : ℕ = measure script (step_core script t run).core in
        let c : ℕ = measure script run.core in
        let rest : a ≤ b = tokens_low tokens (step_core script t run) (token_state script shortages can t run state) in
        let first : b ≤ c = token_low t run state in
        omega (arith, rest, first)

    -- ---- rounds of a drain
    rounds_state : (n : ℕ) (run : Run) → RunKeeps script run.core → RunKeeps script (rounds n script run).core
    rounds_state zero run state = state
    rounds_state (suc n) run state = round_state script shortages can (rounds n script run) (rounds_state n run state)

    -- each round found somebody with a step, where after them somebody has one
    rounds_low : (n : ℕ) (run : Run) → RunKeeps script run.core → is_unfinished script (rounds n script run).core ≡ true → n + measure script (rounds n script run).core ≤ measure script run.core
    rounds_low zero run state busy = let a : ℕ = measure script run.core in let same : 0 + a ≤ a = omega arith in same
    rounds_low (suc n) run state busy = by (round_moves script shortages can (rounds n script run) (rounds_state n run state)) (is_unfinished script (rounds n script run).core) refl (rounds_low n run state)
      where
        by : (measure script (rounds (suc n) script run).core < measure script (rounds n script run).core) ⊎ ((rounds (suc n) script run ≡ rounds n script run) × (is_unfinished script (rounds n script run).core ≡ false))
            → (b : Bool) → is_unfinished script (rounds n script run).core ≡ b
            → (is_unfinished script (rounds n script run).core ≡ true → n + measure script (rounds n script run).core ≤ measure script run.core)
            → suc n + measure script (rounds (suc n) script run).core ≤ measure script run.core
        by (inl less) true e before =
            let a : ℕ = measure script (rounds (suc n) script run).core in
            let b : ℕ = measure script (rounds n script run).core in
            let c : ℕ = measure script run.core in
            let below : a < b = less in
            let low : n + b ≤ c = before e in
            let all : suc n + a ≤ c = omega (arith, below, low) in
            all
        by (inr same) true e before = absurd (true≢false (sym e ∙ same.1))
        by moved false e before = absurd (true≢false (sym busy ∙ ap (λ (r : Run). is_unfinished script r.core) (round_idle script (rounds n script run) e) ∙ e))

    -- so there are no more of them than the first core's fuel
    pub rounds_few : (tokens : List Token) (n : ℕ) → is_unfinished script (rounds n script (run_tokens script tokens (record { core = first_core script; shortages = shortages }))).core ≡ true
        → n ≤ fuel_of script (first_core script)
    rounds_few tokens n busy =
        let start : Run = record { core = first_core script; shortages = shortages } in
        let run : Run = run_tokens script tokens start in
        let a : ℕ = measure script (rounds n script run).core in
        let b : ℕ = measure script run.core in
        let c : ℕ = measure script (first_core script) in
        let f : ℕ = fuel_of script (first_core script) in
        let made : n + a ≤ b = rounds_low n run (run_state script shortages can tokens start (first_kept script can)) busy in
        let low : b ≤ c = tokens_low tokens start (first_kept script can) in
        let fits : c ≤ f = measure_fits script (first_core script) can.tried (first_keeps script can.tried) in
        let all : n ≤ f = omega (arith, made, low, fits) in
        all
