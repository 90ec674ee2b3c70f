-- Steps of tokens one after the other.
use Rattle.std.proofs.Common.{◌≡◌, ℕ, zero, suc, ◌+◌, Bool, true, false, List, [], ◌∷◌, ◌++◌, length, fold, map, refl, sym, ap, ◌∙◌, append_assoc}
use Rattle.std.specs.List.{range_with_len}
use Rattle.store_map.specs.declared.actor.Token.{Token}
use Rattle.store_map.specs.declared.actor.Token.TheVariants as token
use Rattle.store_map.specs.declared.script.Script.{Script}
use Rattle.store_core.specs.Core.{sweeper_has_step}
use Rattle.store_core.specs.Fuel.{fuel_of}
use Rattle.store_core.specs.Run.{Run, client_step, repairer_step}
use Rattle.store_core.specs.Schedule.{is_unfinished, sweep_if, round, drain_by, drain, step_core, run_tokens}
use Rattle.history_laws.specs.Trace.{made_of, trace_of}
use Rattle.history_laws.specs.Steps.{actors_round, sweep_token, round_steps, drain_steps, steps_of}
use Rattle.world_laws.specs.Telling.{tokens_made}
use Rattle.world_laws.specs.RoundTells.{client_tokens, repairer_tokens, round_made}

module _ (script : Script) where
  pub run_append : (a b : List Token) (run : Run) → run_tokens script (a ++ b) run ≡ run_tokens script b (run_tokens script a run)
  run_append [] b run = refl
  run_append (next ∷ a) b run = run_append a b (step_core script next run)

  pub trace_append : (a b : List Token) (run : Run) → trace_of script (a ++ b) run ≡ trace_of script a run ++ trace_of script b (run_tokens script a run)
  trace_append [] b run = refl
  trace_append (next ∷ a) b run =
      let now : Run = step_core script next run in
      ap (λ l. made_of script next run ++ l) (trace_append a b now)
      ∙ sym (append_assoc (made_of script next run) (trace_of script a now) (trace_of script b (run_tokens script a now)))

  steps_append : (a b : List Token) (run : Run) → steps_of script (a ++ b) run ≡ steps_of script a run ++ steps_of script b (run_tokens script a run)
  steps_append [] b run = refl
  steps_append (token.Drain ∷ a) b run =
      let first : List Token = drain_steps (fuel_of script run.core) script run in
      ap (λ l. first ++ l) (steps_append a b (drain script run))
      ∙ sym (append_assoc first (steps_of script a (drain script run)) (steps_of script b (run_tokens script a (drain script run))))
  steps_append (token.Client i ∷ a) b run = ap (λ l. token.Client i ∷ l) (steps_append a b (step_core script (token.Client i) run))
  steps_append (token.Repairer i ∷ a) b run = ap (λ l. token.Repairer i ∷ l) (steps_append a b (step_core script (token.Repairer i) run))
  steps_append (token.Sweep ∷ a) b run = ap (λ l. token.Sweep ∷ l) (steps_append a b (step_core script token.Sweep run))
  steps_append (token.Wipe server ∷ a) b run = ap (λ l. token.Wipe server ∷ l) (steps_append a b (step_core script (token.Wipe server) run))
  steps_append (token.Down server ∷ a) b run = ap (λ l. token.Down server ∷ l) (steps_append a b (step_core script (token.Down server) run))
  steps_append (token.Up server ∷ a) b run = ap (λ l. token.Up server ∷ l) (steps_append a b (step_core script (token.Up server) run))
  steps_append (token.ReapClient i ∷ a) b run = ap (λ l. token.ReapClient i ∷ l) (steps_append a b (step_core script (token.ReapClient i) run))
  steps_append (token.ReapRepairer i ∷ a) b run = ap (λ l. token.ReapRepairer i ∷ l) (steps_append a b (step_core script (token.ReapRepairer i) run))

  -- ---- the tokens of a round are no drains: their steps are themselves
  clients_flat : (a k : ℕ) (run : Run) → steps_of script (map token.Client (range_with_len a k)) run ≡ map token.Client (range_with_len a k)
  clients_flat a zero run = refl
  clients_flat a (suc k) run = ap (λ l. token.Client a ∷ l) (clients_flat (a + 1) k (client_step script a run))

  repairers_flat : (a k : ℕ) (run : Run) → steps_of script (map token.Repairer (range_with_len a k)) run ≡ map token.Repairer (range_with_len a k)
  repairers_flat a zero run = refl
  repairers_flat a (suc k) run = ap (λ l. token.Repairer a ∷ l) (repairers_flat (a + 1) k (repairer_step script a run))

  sweep_flat : (b : Bool) (run : Run) → steps_of script (sweep_token b) run ≡ sweep_token b
  sweep_flat true run = refl
  sweep_flat false run = refl

  round_flat : (has : Bool) (run : Run) → steps_of script (actors_round script ++ sweep_token has) run ≡ actors_round script ++ sweep_token has
  round_flat has run =
      let clients : List Token = client_tokens (length script.clients) in
      let repairers : List Token = repairer_tokens (length script.repairers) in
      let late : Run = run_tokens script clients run in
      steps_append (actors_round script) (sweep_token has) run
      ∙ ap (λ l. l ++ steps_of script (sweep_token has) (run_tokens script (actors_round script) run)) (steps_append clients repairers run)
      ∙ (λ k. (clients_flat 0 (length script.clients) run k ++ repairers_flat 0 (length script.repairers) late k) ++ sweep_flat has (run_tokens script (actors_round script) run) k)

  -- so a round makes the steps of its tokens
  pub round_as_tokens : (run : Run) → round_made script run ≡ tokens_made script (round_steps script run) run
  round_as_tokens run = ap (λ l. trace_of script l run) (sym (round_flat (sweeper_has_step (run_tokens script (actors_round script) run).core) run))

  -- ---- and comes where they come
  clients_run : (a k : ℕ) (run : Run) → run_tokens script (map token.Client (range_with_len a k)) run ≡ fold (λ r i. client_step script i r) run (range_with_len a k)
  clients_run a zero run = refl
  clients_run a (suc k) run = clients_run (a + 1) k (client_step script a run)

  repairers_run : (a k : ℕ) (run : Run) → run_tokens script (map token.Repairer (range_with_len a k)) run ≡ fold (λ r i. repairer_step script i r) run (range_with_len a k)
  repairers_run a zero run = refl
  repairers_run a (suc k) run = repairers_run (a + 1) k (repairer_step script a run)

  sweep_run : (b : Bool) (run : Run) → run_tokens script (sweep_token b) run ≡ sweep_if b script run
  sweep_run true run = refl
  sweep_run false run = refl

  pub round_run : (run : Run) → run_tokens script (round_steps script run) run ≡ round script run
  round_run run =
      let n : ℕ = length script.clients in
      let m : ℕ = length script.repairers in
      let late : Run = run_tokens script (actors_round script) run in
      run_append (actors_round script) (sweep_token (sweeper_has_step late.core)) run
      ∙ sweep_run (sweeper_has_step late.core) late
      ∙ ap (λ (r : Run). sweep_if (sweeper_has_step r.core) script r)
      (run_append (client_tokens n) (repairer_tokens m) run ∙ ap (run_tokens script (repairer_tokens m)) (clients_run 0 n run)
      ∙ repairers_run 0 m (fold (λ r i. client_step script i r) run (range_with_len 0 n)))

  -- a drain comes where its steps come
  drain_run : (fuel : ℕ) (run : Run) → run_tokens script (drain_steps fuel script run) run ≡ drain_by fuel script run
  drain_run zero run = refl
  drain_run (suc fuel) run = by (drain_run fuel (round script run)) (is_unfinished script run.core)
    where
      by : run_tokens script (drain_steps fuel script (round script run)) (round script run) ≡ drain_by fuel script (round script run)
          → (b : Bool)
          → run_tokens script (elim b [ true ↦ round_steps script run ++ drain_steps fuel script (round script run) | false ↦ [] ]) run
          ≡ elim b [ true ↦ drain_by fuel script (round script run) | false ↦ run ]
      by rest true =
          let later : List Token = drain_steps fuel script (round script run) in
          run_append (round_steps script run) later run ∙ ap (run_tokens script later) (round_run run) ∙ rest
      by rest false = refl

  -- so do tokens
  steps_run : (tokens : List Token) (run : Run) → run_tokens script (steps_of script tokens run) run ≡ run_tokens script tokens run
  steps_run [] run = refl
  steps_run (token.Drain ∷ tokens) run =
      let later : List Token = steps_of script tokens (drain script run) in
      run_append (drain_steps (fuel_of script run.core) script run) later run
      ∙ ap (run_tokens script later) (drain_run (fuel_of script run.core) run) ∙ steps_run tokens (drain script run)
  steps_run (token.Client i ∷ tokens) run = steps_run tokens (step_core script (token.Client i) run)
  steps_run (token.Repairer i ∷ tokens) run = steps_run tokens (step_core script (token.Repairer i) run)
  steps_run (token.Sweep ∷ tokens) run = steps_run tokens (step_core script token.Sweep run)
  steps_run (token.Wipe server ∷ tokens) run = steps_run tokens (step_core script (token.Wipe server) run)
  steps_run (token.Down server ∷ tokens) run = steps_run tokens (step_core script (token.Down server) run)
  steps_run (token.Up server ∷ tokens) run = steps_run tokens (step_core script (token.Up server) run)
  steps_run (token.ReapClient i ∷ tokens) run = steps_run tokens (step_core script (token.ReapClient i) run)
  steps_run (token.ReapRepairer i ∷ tokens) run = steps_run tokens (step_core script (token.ReapRepairer i) run)

  -- the steps of tokens after others
  pub made_append : (a b : List Token) (run : Run) → tokens_made script (a ++ b) run ≡ tokens_made script a run ++ tokens_made script b (run_tokens script a run)
  made_append a b run =
      let now : Run = run_tokens script a run in
      ap (λ l. trace_of script l run) (steps_append a b run)
      ∙ trace_append (steps_of script a run) (steps_of script b now) run
      ∙ ap (λ (r : Run). tokens_made script a run ++ trace_of script (steps_of script b now) r) (steps_run a run)
