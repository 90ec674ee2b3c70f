-- Where nobody has a step a round makes none.
use Rattle.std.proofs.Common.{◌≡◌, ℕ, zero, suc, ◌+◌, false, ◌||◌, List, [], ◌∷◌, ◌++◌, length, map, Option, None, Some, refl, ap, ◌∙◌}
use Rattle.std.proofs.lemmas.Bool.{or_parts}
use Rattle.std.specs.List.{slice_get, range_with_len}
use Rattle.store_map.specs.declared.actor.Actor.TheVariants as actor
use Rattle.store_map.specs.declared.actor.Token.TheVariants as token
use Rattle.store_map.specs.declared.script.Script.{Script}
use Rattle.store_core.specs.Core.{sweeper_has_step}
use Rattle.store_core.specs.Run.{Run, first_shortage, places_in, client_step, repairer_step}
use Rattle.store_core.specs.Schedule.{is_unfinished, run_tokens}
use Rattle.store_core.specs.Work.{Work, Calling, client_work, repairer_work, has_step, any_has_step}
use Rattle.run_laws.specs.ShortageLaws.{may_turn}
use Rattle.run_laws.proofs.Leading.{steps_lead}
use Rattle.history_laws.specs.Trace.{made_of, trace_of}
use Rattle.history_laws.specs.Steps.{actors_round, sweep_token}
use Rattle.world_laws.proofs.TurnLaws.{ample}
use Rattle.world_laws.specs.RoundTells.{client_tokens, repairer_tokens, round_made}
use Rattle.world_laws.proofs.Lists.{run_append, trace_append}
use Rattle.world_laws.proofs.TraceTurns.{none_told}

no_turn : (works : List Work) (callings : List Calling) (i : ℕ) → any_has_step works callings ≡ false → may_turn (slice_get works i) (slice_get callings i) ≡ false
no_turn [] callings i none = refl
no_turn (work ∷ works) [] zero none = refl
no_turn (work ∷ works) [] (suc i) none = no_calling (slice_get works i)
  where
    no_calling : (found : Option Work) → may_turn found None ≡ false
    no_calling None = refl
    no_calling (Some other) = refl
no_turn (work ∷ works) (calling ∷ callings) zero none = (or_parts (has_step work calling) (any_has_step works callings) none).0
no_turn (work ∷ works) (calling ∷ callings) (suc i) none = no_turn works callings i (or_parts (has_step work calling) (any_has_step works callings) none).1

module _ (script : Script) (run : Run) (over : is_unfinished script run.core ≡ false) where
  parts : ((any_has_step (client_work script) run.core.clients || any_has_step (repairer_work script) run.core.repairers) ≡ false) × (sweeper_has_step run.core ≡ false)
  parts = or_parts (any_has_step (client_work script) run.core.clients || any_has_step (repairer_work script) run.core.repairers) (sweeper_has_step run.core) over

  calls : (any_has_step (client_work script) run.core.clients ≡ false) × (any_has_step (repairer_work script) run.core.repairers ≡ false)
  calls = or_parts (any_has_step (client_work script) run.core.clients) (any_has_step (repairer_work script) run.core.repairers) parts.0

  client_stays : (i : ℕ) → client_step script i run ≡ run
  client_stays i = ((steps_lead script run.core ample).client i).none (no_turn (client_work script) run.core.clients i calls.0) run.shortages

  repairer_stays : (i : ℕ) → repairer_step script i run ≡ run
  repairer_stays i = ((steps_lead script run.core ample).repairer i).none (no_turn (repairer_work script) run.core.repairers i calls.1) run.shortages

  client_makes : (i : ℕ) → made_of script (token.Client i) run ≡ []
  client_makes i =
      none_told script (first_shortage run.shortages) (actor.Client i) (places_in run.core) (slice_get (client_work script) i) (slice_get run.core.clients i)
      (no_turn (client_work script) run.core.clients i calls.0)

  repairer_makes : (i : ℕ) → made_of script (token.Repairer i) run ≡ []
  repairer_makes i =
      none_told script (first_shortage run.shortages) (actor.Repairer i) (places_in run.core) (slice_get (repairer_work script) i) (slice_get run.core.repairers i)
      (no_turn (repairer_work script) run.core.repairers i calls.1)

  clients_stay : (a k : ℕ) → run_tokens script (map token.Client (range_with_len a k)) run ≡ run
  clients_stay a zero = refl
  clients_stay a (suc k) = ap (run_tokens script (map token.Client (range_with_len (a + 1) k))) (client_stays a) ∙ clients_stay (a + 1) k

  repairers_stay : (a k : ℕ) → run_tokens script (map token.Repairer (range_with_len a k)) run ≡ run
  repairers_stay a zero = refl
  repairers_stay a (suc k) = ap (run_tokens script (map token.Repairer (range_with_len (a + 1) k))) (repairer_stays a) ∙ repairers_stay (a + 1) k

  clients_make : (a k : ℕ) → trace_of script (map token.Client (range_with_len a k)) run ≡ []
  clients_make a zero = refl
  clients_make a (suc k) = (λ j. client_makes a j ++ trace_of script (map token.Client (range_with_len (a + 1) k)) (client_stays a j)) ∙ clients_make (a + 1) k

  repairers_make : (a k : ℕ) → trace_of script (map token.Repairer (range_with_len a k)) run ≡ []
  repairers_make a zero = refl
  repairers_make a (suc k) = (λ j. repairer_makes a j ++ trace_of script (map token.Repairer (range_with_len (a + 1) k)) (repairer_stays a j)) ∙ repairers_make (a + 1) k

  pub round_makes_none : round_made script run ≡ []
  round_makes_none =
      let n : ℕ = length script.clients in
      let m : ℕ = length script.repairers in
      let now : Run = run_tokens script (actors_round script) run in
      let stays : now ≡ run = run_append script (client_tokens n) (repairer_tokens m) run ∙ ap (run_tokens script (repairer_tokens m)) (clients_stay 0 n) ∙ repairers_stay 0 m in
      let actors : trace_of script (actors_round script) run ≡ [] =
      trace_append script (client_tokens n) (repairer_tokens m) run
      ∙ (λ j. clients_make 0 n j ++ trace_of script (repairer_tokens m) (clients_stay 0 n j)) ∙ repairers_make 0 m in
      trace_append script (actors_round script) (sweep_token (sweeper_has_step now.core)) run
      ∙ (λ j. actors j ++ trace_of script (sweep_token (sweeper_has_step (stays j).core)) (stays j))
      ∙ ap (λ b. trace_of script (sweep_token b) run) parts.1
