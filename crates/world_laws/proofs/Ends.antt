-- Whether somebody has a step, and that a round without one changes nothing.
use Rattle.std.proofs.Common.{◌≡◌, ℕ, zero, suc, Bool, false, ◌||◌, List, [], ◌∷◌, length, map, fold, Option, None, Some, refl, ap, ◌∙◌}
use Rattle.std.proofs.lemmas.Bool.{or_parts}
use Rattle.std.specs.List.{slice_get, range_with_len}
use Rattle.store_map.specs.declared.script.Script.{Script}
use Rattle.store_core.specs.Core.{Core, sweeper_has_step}
use Rattle.store_core.specs.Work.{Work, Calling, client_work, repairer_work, has_step, any_has_step}
use Rattle.store_core.specs.Run.{Run, client_step, repairer_step}
use Rattle.store_core.specs.Schedule.{is_unfinished, sweep_if, round}
use Rattle.run_laws.specs.ShortageLaws.{may_turn}
use Rattle.run_laws.proofs.Leading.{steps_lead}
use Rattle.world_laws.specs.World.{ActorOf, WorldOf}
use Rattle.world_laws.specs.Known.{calling_of, core_of}
use Rattle.world_laws.specs.StandsFor.{AllStand, StandsFor}
use Rattle.world_laws.specs.RoundLaws.{EndsAreKnown}
use Rattle.world_laws.proofs.Actors.{same_turn}
use Rattle.world_laws.proofs.TurnLaws.{ample}

-- ---- it is known of the world
any_known : (script : Script) (works : List Work) (callings : List Calling) (actors : List ActorOf) → AllStand script works callings actors
    → any_has_step works callings ≡ any_has_step works (map (calling_of script) actors)
any_known script [] [] [] all = refl
any_known script (work ∷ works) (calling ∷ callings) (a ∷ actors) all =
    λ k. same_turn script work calling a all.0 k || any_known script works callings actors all.1 k
any_known script works callings actors all = absurd all

pub sweeper_known : (script : Script) (w : WorldOf) (core : Core) → StandsFor script w core → sweeper_has_step core ≡ sweeper_has_step (core_of script w)
sweeper_known script w core stands = λ k. sweeper_has_step (record core { directory = stands.directory k; sweeper = stands.sweeper k })

pub ends_are_known : EndsAreKnown
ends_are_known script w core stands =
    let clients : any_has_step (client_work script) core.clients ≡ any_has_step (client_work script) (map (calling_of script) w.clients) =
    any_known script (client_work script) core.clients w.clients stands.clients in
    let repairers : any_has_step (repairer_work script) core.repairers ≡ any_has_step (repairer_work script) (map (calling_of script) w.repairers) =
    any_known script (repairer_work script) core.repairers w.repairers stands.repairers in
    λ k. clients k || repairers k || sweeper_known script w core stands k

-- ---- nobody has a step
none_turns : (works : List Work) (callings : List Calling) (i : ℕ) → any_has_step works callings ≡ false → may_turn (slice_get works i) (slice_get callings i) ≡ false
none_turns [] callings i none = refl
none_turns (work ∷ works) [] zero none = refl
none_turns (work ∷ works) [] (suc i) none = no_work (slice_get works i)
  where
    no_work : (found : Option Work) → may_turn found None ≡ false
    no_work None = refl
    no_work (Some other) = refl
none_turns (work ∷ works) (calling ∷ callings) zero none = (or_parts (has_step work calling) (any_has_step works callings) none).0
none_turns (work ∷ works) (calling ∷ callings) (suc i) none = none_turns works callings i (or_parts (has_step work calling) (any_has_step works callings) none).1

-- a step that changes nothing does so again and again
folds_idle : (step : ℕ → Run → Run) (run : Run) → ((i : ℕ) → step i run ≡ run) → (places : List ℕ) → fold (λ r i. step i r) run places ≡ run
folds_idle step run idle [] = refl
folds_idle step run idle (i ∷ places) = ap (λ (r : Run). fold (λ s j. step j s) r places) (idle i) ∙ folds_idle step run idle places

module _ (script : Script) (run : Run) (over : is_unfinished script run.core ≡ false) where
  parts : ((any_has_step (client_work script) run.core.clients || any_has_step (repairer_work script) run.core.repairers) ≡ false) × (sweeper_has_step run.core ≡ false)
  parts = or_parts (any_has_step (client_work script) run.core.clients || any_has_step (repairer_work script) run.core.repairers) (sweeper_has_step run.core) over

  calls : (any_has_step (client_work script) run.core.clients ≡ false) × (any_has_step (repairer_work script) run.core.repairers ≡ false)
  calls = or_parts (any_has_step (client_work script) run.core.clients) (any_has_step (repairer_work script) run.core.repairers) parts.0

  client_idle : (i : ℕ) → client_step script i run ≡ run
  client_idle i = ((steps_lead script run.core ample).client i).none (none_turns (client_work script) run.core.clients i calls.0) run.shortages

  repairer_idle : (i : ℕ) → repairer_step script i run ≡ run
  repairer_idle i = ((steps_lead script run.core ample).repairer i).none (none_turns (repairer_work script) run.core.repairers i calls.1) run.shortages

  -- a round changes nothing
  pub round_idle : round script run ≡ run
  round_idle =
      let clients : fold (λ r i. client_step script i r) run (range_with_len 0 (length script.clients)) ≡ run = folds_idle (client_step script) run client_idle (range_with_len 0 (length script.clients)) in
      let repairers : fold (λ r i. repairer_step script i r) run (range_with_len 0 (length script.repairers)) ≡ run = folds_idle (repairer_step script) run repairer_idle (range_with_len 0 (length script.repairers)) in
      let late : Run → Run = λ r. sweep_if (sweeper_has_step r.core) script r in
      ap (λ (r : Run). late (fold (λ s i. repairer_step script i s) r (range_with_len 0 (length script.repairers)))) clients
      ∙ ap late repairers
      ∙ ap (λ (b : Bool). sweep_if b script run) parts.1
