-- A drain is the steps of its rounds.
use Rattle.std.proofs.Common.{◌≡◌, ℕ, zero, suc, ◌+◌, Bool, true, false, List, [], ◌∷◌, ◌++◌, length, fold, map, refl, ap, ◌∙◌}
use Rattle.std.specs.List.{range_with_len}
use Rattle.store_map.specs.declared.actor.Token.{Token}
use Rattle.store_map.specs.declared.actor.Token.TheVariants as token
use Rattle.store_map.specs.declared.script.Script.{Script}
use Rattle.store_core.specs.Core.{sweeper_has_step}
use Rattle.store_core.specs.Fuel.{fuel_of}
use Rattle.store_core.specs.Run.{Run, client_step, repairer_step}
use Rattle.store_core.specs.Schedule.{is_unfinished, sweep_if, round, drain_by, drain, step_core, run_tokens}
use Rattle.history_laws.specs.Steps.{actors_round, sweep_token, round_steps, drain_steps, steps_of}
use Rattle.history_laws.specs.InTimeLaws.{DrainsAreSteps}

-- no drain
abbrev pub IsStep : Token → Type 0
IsStep token.Drain = ⊥
IsStep next = Unit {0}

abbrev pub AreSteps : List Token → Type 0
AreSteps [] = Unit {0}
AreSteps (next ∷ tokens) = IsStep next × AreSteps tokens

are_steps_append : (a b : List Token) → AreSteps a → AreSteps b → AreSteps (a ++ b)
are_steps_append [] b h k = k
are_steps_append (next ∷ a) b h k = (h.0, are_steps_append a b h.1 k)

clients_step : (a k : ℕ) → AreSteps (map token.Client (range_with_len a k))
clients_step a zero = tt
clients_step a (suc k) = (tt, clients_step (a + 1) k)

repairers_step : (a k : ℕ) → AreSteps (map token.Repairer (range_with_len a k))
repairers_step a zero = tt
repairers_step a (suc k) = (tt, repairers_step (a + 1) k)

sweep_steps : (b : Bool) → AreSteps (sweep_token b)
sweep_steps true = (tt, tt)
sweep_steps false = tt

module _ (script : Script) where
  run_append : (a b : List Token) (run : Run) → run_tokens script (a ++ b) run ≡ run_tokens script b (run_tokens script a run)
  run_append [] b run = refl
  run_append (next ∷ a) b run = run_append a b (step_core script next run)

  clients_run : (a k : ℕ) (run : Run) → run_tokens script (map token.Client (range_with_len a k)) run ≡ fold (λ r i. client_step script i r) run (range_with_len a k)
  clients_run a zero run = refl
  clients_run a (suc k) run = clients_run (a + 1) k (client_step script a run)

  repairers_run : (a k : ℕ) (run : Run) → run_tokens script (map token.Repairer (range_with_len a k)) run ≡ fold (λ r i. repairer_step script i r) run (range_with_len a k)
  repairers_run a zero run = refl
  repairers_run a (suc k) run = repairers_run (a + 1) k (repairer_step script a run)

  actors_run : (run : Run)
      → run_tokens script (actors_round script) run
      ≡ fold (λ r i. repairer_step script i r) (fold (λ r i. client_step script i r) run (range_with_len 0 (length script.clients))) (range_with_len 0 (length script.repairers))
  actors_run run =
      run_append (map token.Client (range_with_len 0 (length script.clients))) (map token.Repairer (range_with_len 0 (length script.repairers))) run
      ∙ ap (run_tokens script (map token.Repairer (range_with_len 0 (length script.repairers)))) (clients_run 0 (length script.clients) run)
      ∙ repairers_run 0 (length script.repairers) (fold (λ r i. client_step script i r) run (range_with_len 0 (length script.clients)))

  sweep_run : (b : Bool) (run : Run) → run_tokens script (sweep_token b) run ≡ sweep_if b script run
  sweep_run true run = refl
  sweep_run false run = refl

  round_run : (run : Run) → run_tokens script (round_steps script run) run ≡ round script run
  round_run run =
      run_append (actors_round script) (sweep_token (sweeper_has_step (run_tokens script (actors_round script) run).core)) run
      ∙ sweep_run (sweeper_has_step (run_tokens script (actors_round script) run).core) (run_tokens script (actors_round script) run)
      ∙ ap (λ (r : Run). sweep_if (sweeper_has_step r.core) script r) (actors_run run)

  drain_run : (fuel : ℕ) (run : Run) → run_tokens script (drain_steps fuel script run) run ≡ drain_by fuel script run
  drain_run zero run = refl
  drain_run (suc fuel) run = by (drain_run fuel (round script run)) (is_unfinished script run.core)
    where
      by : run_tokens script (drain_steps fuel script (round script run)) (round script run) ≡ drain_by fuel script (round script run) → (b : Bool) → run_tokens script (elim b [ true ↦ round_steps script run ++ drain_steps fuel script (round script run) | false ↦ [] ]) run ≡ elim b [ true ↦ drain_by fuel script (round script run) | false ↦ run ]
      by rest true =
          run_append (round_steps script run) (drain_steps fuel script (round script run)) run
          ∙ ap (run_tokens script (drain_steps fuel script (round script run))) (round_run run) ∙ rest
      by rest false = refl

  round_flat : (run : Run) → AreSteps (round_steps script run)
  round_flat run =
      are_steps_append (actors_round script) (sweep_token (sweeper_has_step (run_tokens script (actors_round script) run).core))
      (are_steps_append (map token.Client (range_with_len 0 (length script.clients))) (map token.Repairer (range_with_len 0 (length script.repairers))) (clients_step 0 (length script.clients)) (repairers_step 0 (length script.repairers)))
      (sweep_steps (sweeper_has_step (run_tokens script (actors_round script) run).core))

  drain_flat : (fuel : ℕ) (run : Run) → AreSteps (drain_steps fuel script run)
  drain_flat zero run = tt
  drain_flat (suc fuel) run = by (drain_flat fuel (round script run)) (is_unfinished script run.core)
    where
      by : AreSteps (drain_steps fuel script (round script run)) → (b : Bool) → AreSteps (elim b [ true ↦ round_steps script run ++ drain_steps fuel script (round script run) | false ↦ [] ])
      by rest true = are_steps_append (round_steps script run) (drain_steps fuel script (round script run)) (round_flat run) rest
      by rest false = tt

  pub steps_flat : (tokens : List Token) (run : Run) → AreSteps (steps_of script tokens run)
  steps_flat [] run = tt
  steps_flat (token.Drain ∷ tokens) run = are_steps_append (drain_steps (fuel_of script run.core) script run) (steps_of script tokens (drain script run)) (drain_flat (fuel_of script run.core) run) (steps_flat tokens (drain script run))
  steps_flat (token.Client i ∷ tokens) run = (tt, steps_flat tokens (step_core script (token.Client i) run))
  steps_flat (token.Repairer i ∷ tokens) run = (tt, steps_flat tokens (step_core script (token.Repairer i) run))
  steps_flat (token.Sweep ∷ tokens) run = (tt, steps_flat tokens (step_core script token.Sweep run))
  steps_flat (token.Wipe server ∷ tokens) run = (tt, steps_flat tokens (step_core script (token.Wipe server) run))
  steps_flat (token.Down server ∷ tokens) run = (tt, steps_flat tokens (step_core script (token.Down server) run))
  steps_flat (token.Up server ∷ tokens) run = (tt, steps_flat tokens (step_core script (token.Up server) run))
  steps_flat (token.ReapClient i ∷ tokens) run = (tt, steps_flat tokens (step_core script (token.ReapClient i) run))
  steps_flat (token.ReapRepairer i ∷ tokens) run = (tt, steps_flat tokens (step_core script (token.ReapRepairer i) run))

pub drains_are_steps : DrainsAreSteps
drains_are_steps script [] run = refl
drains_are_steps script (token.Drain ∷ tokens) run =
    run_append script (drain_steps (fuel_of script run.core) script run) (steps_of script tokens (drain script run)) run
    ∙ ap (run_tokens script (steps_of script tokens (drain script run))) (drain_run script (fuel_of script run.core) run) ∙ drains_are_steps script tokens (drain script run)
drains_are_steps script (token.Client i ∷ tokens) run = drains_are_steps script tokens (step_core script (token.Client i) run)
drains_are_steps script (token.Repairer i ∷ tokens) run = drains_are_steps script tokens (step_core script (token.Repairer i) run)
drains_are_steps script (token.Sweep ∷ tokens) run = drains_are_steps script tokens (step_core script token.Sweep run)
drains_are_steps script (token.Wipe server ∷ tokens) run = drains_are_steps script tokens (step_core script (token.Wipe server) run)
drains_are_steps script (token.Down server ∷ tokens) run = drains_are_steps script tokens (step_core script (token.Down server) run)
drains_are_steps script (token.Up server ∷ tokens) run = drains_are_steps script tokens (step_core script (token.Up server) run)
drains_are_steps script (token.ReapClient i ∷ tokens) run = drains_are_steps script tokens (step_core script (token.ReapClient i) run)
drains_are_steps script (token.ReapRepairer i ∷ tokens) run = drains_are_steps script tokens (step_core script (token.ReapRepairer i) run)
