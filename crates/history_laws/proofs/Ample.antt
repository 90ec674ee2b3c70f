-- Runs in which memory is wanting in no step are one.
use Rattle.std.proofs.Common.{◌≡◌, ℕ, zero, suc, Bool, true, false, List, [], ◌∷◌, length, fold, drop, slice_get, Option, None, Some, All, refl, sym, ap, subst}
use Rattle.std.proofs.lemmas.List.Elements.{All-nil, All-head, All-tail}
use Rattle.std.specs.List.{range_with_len}
use Rattle.store_map.specs.declared.actor.Actor.TheVariants as actor
use Rattle.store_map.specs.declared.actor.Token.{Token}
use Rattle.store_map.specs.declared.actor.Token.TheVariants as token
use Rattle.store_map.specs.declared.script.Script.{Script}
use Rattle.store_core.specs.Act.{Act, DirectoryStep, ServerStep}
use Rattle.store_core.specs.CallStep.{step_of}
use Rattle.store_core.specs.Core.{Core, first_core, sweeper_has_step}
use Rattle.store_core.specs.Fuel.{fuel_of}
use Rattle.store_core.specs.Run.{Run, first_shortage, after_step, places_in, operator_step, sweeper_step, after_client, after_repairer, client_step, repairer_step}
use Rattle.store_core.specs.Schedule.{is_unfinished, sweep_if, round, drain_by, step_core, run_tokens}
use Rattle.store_core.specs.Step.{Shortage, Places}
use Rattle.store_core.specs.Work.{Calling, client_work, repairer_work}
use Rattle.history_laws.specs.Ample.{IsAmple, AmpleRunsAreOne}

-- the same core, in the first run with some shortages that are none, in the second one with none
record Same (r q : Run) : Type 0 where
  pub core : r.core ≡ q.core
  pub ample : All IsAmple r.shortages
  pub none : q.shortages ≡ []

abbrev bare : Core → Run
bare core = record { core = core; shortages = [] }

-- what holds of a run and the bare one of its core holds of every two that are the same
by_bare : (f : Run → Run) → ((r : Run) → All IsAmple r.shortages → Same (f r) (f (bare r.core))) → (r q : Run) → Same r q → Same (f r) (f q)
by_bare f each r q same =
    subst (λ (x : Run). Same (f r) (f x)) (λ k. record { core = same.core k; shortages = sym same.none k }) (each r same.ample)

first_same : (shortages : List Shortage) → All IsAmple shortages → first_shortage shortages ≡ first_shortage []
first_same [] all = refl
first_same (shortage ∷ more) all =
    let it : IsAmple shortage = All-head IsAmple shortage more all in
    λ k. record { coding = it.0 k; step = it.1 k }

rest_ample : (shortages : List Shortage) → All IsAmple shortages → All IsAmple (drop 1 shortages)
rest_ample [] all = All-nil IsAmple
rest_ample (shortage ∷ more) all = All-tail IsAmple shortage more all

stepped : (r : Run) (core : Core) → All IsAmple r.shortages → Same (after_step r core) (after_step (bare r.core) core)
stepped r core all = record { core = refl; ample = rest_ample r.shortages all; none = refl }

module _ (script : Script) where
  client_by : (i : ℕ) (r : Run) → All IsAmple r.shortages → (found : Option (Places × Calling)) → Same (after_client i r found) (after_client i (bare r.core) found)
  client_by i r all None = record { core = refl; ample = all; none = refl }
  client_by i r all (Some after) = stepped r _ all

  repairer_by : (i : ℕ) (r : Run) → All IsAmple r.shortages → (found : Option (Places × Calling)) → Same (after_repairer i r found) (after_repairer i (bare r.core) found)
  repairer_by i r all None = record { core = refl; ample = all; none = refl }
  repairer_by i r all (Some after) = stepped r _ all

  client_same : (i : ℕ) (r : Run) → All IsAmple r.shortages → Same (client_step script i r) (client_step script i (bare r.core))
  client_same i r all =
      let found : Shortage → Option (Places × Calling) = λ shortage. step_of script shortage (actor.Client i) (slice_get (client_work script) i) (slice_get r.core.clients i) (places_in r.core) in
      subst (λ (s : Shortage). Same (after_client i r (found (first_shortage r.shortages))) (after_client i (bare r.core) (found s))) (first_same r.shortages all)
      (client_by i r all (found (first_shortage r.shortages)))

  repairer_same : (i : ℕ) (r : Run) → All IsAmple r.shortages → Same (repairer_step script i r) (repairer_step script i (bare r.core))
  repairer_same i r all =
      let found : Shortage → Option (Places × Calling) = λ shortage. step_of script shortage (actor.Repairer i) (slice_get (repairer_work script) i) (slice_get r.core.repairers i) (places_in r.core) in
      subst (λ (s : Shortage). Same (after_repairer i r (found (first_shortage r.shortages))) (after_repairer i (bare r.core) (found s))) (first_same r.shortages all)
      (repairer_by i r all (found (first_shortage r.shortages)))

  sweeper_same : (r : Run) → All IsAmple r.shortages → Same (sweeper_step script r) (sweeper_step script (bare r.core))
  sweeper_same r all = stepped r _ all

  -- ---- turns of many
  folded : (f : Run → ℕ → Run) → ((i : ℕ) (r : Run) → All IsAmple r.shortages → Same (f r i) (f (bare r.core) i)) → (r q : Run) (xs : List ℕ) → Same r q → Same (fold f r xs) (fold f q xs)
  folded f each r q [] same = same
  folded f each r q (i ∷ xs) same = folded f each (f r i) (f q i) xs (by_bare (λ x. f x i) (each i) r q same)

  swept : (b : Bool) (r q : Run) → Same r q → Same (sweep_if b script r) (sweep_if b script q)
  swept true r q same = by_bare (sweeper_step script) sweeper_same r q same
  swept false r q same = same

  round_same : (r q : Run) → Same r q → Same (round script r) (round script q)
  round_same r q same =
      let clients : Run → Run = λ x. fold (λ y i. client_step script i y) x (range_with_len 0 (length script.clients)) in
      let repairers : Run → Run = λ x. fold (λ y i. repairer_step script i y) x (range_with_len 0 (length script.repairers)) in
      let one : Same (clients r) (clients q) = folded (λ y i. client_step script i y) client_same r q (range_with_len 0 (length script.clients)) same in
      let two : Same (repairers (clients r)) (repairers (clients q)) =
      folded (λ y i. repairer_step script i y) repairer_same (clients r) (clients q) (range_with_len 0 (length script.repairers)) one in
      subst (λ (b : Bool). Same (round script r) (sweep_if b script (repairers (clients q)))) (ap sweeper_has_step two.core)
      (swept (sweeper_has_step (repairers (clients r)).core) (repairers (clients r)) (repairers (clients q)) two)

  drain_same : (fuel : ℕ) (r q : Run) → Same r q → Same (drain_by fuel script r) (drain_by fuel script q)
  drain_same zero r q same = same
  drain_same (suc fuel) r q same =
      subst (λ (b : Bool). Same (drain_by (suc fuel) script r) (elim b [ true ↦ drain_by fuel script (round script q) | false ↦ q ])) (ap (is_unfinished script) same.core)
      (by (drain_same fuel (round script r) (round script q) (round_same r q same)) (is_unfinished script r.core))
    where
      by : Same (drain_by fuel script (round script r)) (drain_by fuel script (round script q)) → (b : Bool) → Same (elim b [ true ↦ drain_by fuel script (round script r) | false ↦ r ]) (elim b [ true ↦ drain_by fuel script (round script q) | false ↦ q ])
      by on true = on
      by on false = same

  operator_same : (act : Act) (r q : Run) → Same r q → Same (operator_step act r) (operator_step act q)
  operator_same act = by_bare (operator_step act) (λ r all. stepped r _ all)

  token_same : (t : Token) (r q : Run) → Same r q → Same (step_core script t r) (step_core script t q)
  token_same (token.Client i) = by_bare (client_step script i) (client_same i)
  token_same (token.Repairer i) = by_bare (repairer_step script i) (repairer_same i)
  token_same token.Sweep = by_bare (sweeper_step script) sweeper_same
  token_same (token.Wipe server) = operator_same (Act.AtServer server ServerStep.Wipe)
  token_same (token.Down server) = operator_same (Act.AtServer server ServerStep.Down)
  token_same (token.Up server) = operator_same (Act.AtServer server ServerStep.Up)
  token_same (token.ReapClient i) = operator_same (Act.AtDirectory (DirectoryStep.Reap (actor.Client i)))
  token_same (token.ReapRepairer i) = operator_same (Act.AtDirectory (DirectoryStep.Reap (actor.Repairer i)))
  token_same token.Drain = λ r q same.
      subst (λ (fuel : ℕ). Same (drain_by (fuel_of script r.core) script r) (drain_by fuel script q)) (ap (fuel_of script) same.core) (drain_same (fuel_of script r.core) r q same)

  tokens_same : (tokens : List Token) (r q : Run) → Same r q → Same (run_tokens script tokens r) (run_tokens script tokens q)
  tokens_same [] r q same = same
  tokens_same (t ∷ tokens) r q same = tokens_same tokens (step_core script t r) (step_core script t q) (token_same t r q same)

pub ample_runs_are_one : AmpleRunsAreOne
ample_runs_are_one script shortages all tokens =
    (tokens_same script tokens (record { core = first_core script; shortages = shortages }) (record { core = first_core script; shortages = [] })
    (record { core = refl; ample = all; none = refl })).core
