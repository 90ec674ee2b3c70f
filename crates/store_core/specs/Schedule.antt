-- A whole schedule: each token's step, and the rounds of a drain.
use Rattle.std.specs.Prelude.{ℕ, zero, suc, Bool, true, false, ◌||◌, List, [], ◌∷◌, length, fold}
use Rattle.std.specs.List.{range_with_len}
use Rattle.store_map.specs.declared.script.Script.{Script}
use Rattle.store_map.specs.declared.actor.Actor.TheVariants as actor
use Rattle.store_map.specs.declared.actor.Token.{Token}
use Rattle.store_map.specs.declared.actor.Token.TheVariants as token
use Rattle.store_core.specs.Act.{Act, DirectoryStep, ServerStep}
use Rattle.store_core.specs.Fuel.{fuel_of}
use Rattle.store_core.specs.Core.{Core, first_core, sweeper_has_step}
use Rattle.store_core.specs.Work.{client_work, repairer_work, any_has_step}
use Rattle.store_core.specs.Step.{Shortage}
use Rattle.store_core.specs.Run.{Run, operator_step, sweeper_step, client_step, repairer_step}

-- whether some actor or the sweeper has a step
abbrev pub is_unfinished : Script → Core → Bool
is_unfinished script core =
    any_has_step (client_work script) core.clients || any_has_step (repairer_work script) core.repairers || sweeper_has_step core

-- the sweeper's step in a round, if it has one
abbrev pub sweep_if : Bool → Script → Run → Run
sweep_if true script run = sweeper_step script run
sweep_if false script run = run

-- each client, each repairer, then the sweeper where it is busy or there is garbage
abbrev pub round : Script → Run → Run
round script run =
    let after_clients : Run = fold (λ r i. client_step script i r) run (range_with_len 0 (length script.clients)) in
    let after_repairers : Run = fold (λ r i. repairer_step script i r) after_clients (range_with_len 0 (length script.repairers)) in
    sweep_if (sweeper_has_step after_repairers.core) script after_repairers

-- rounds until a whole round makes no step; fuel is at least as many as the rounds that there can be
abbrev pub drain_by : ℕ → Script → Run → Run
drain_by zero script run = run
drain_by (suc fuel) script run = elim (is_unfinished script run.core) [ true ↦ drain_by fuel script (round script run) | false ↦ run ]

-- all actors take turns until none has a step
abbrev pub drain : Script → Run → Run
drain script run = drain_by (fuel_of script run.core) script run

-- the steps of one token
abbrev pub step_core : Script → Token → Run → Run
step_core script (token.Client i) run = client_step script i run
step_core script (token.Repairer i) run = repairer_step script i run
step_core script token.Sweep run = sweeper_step script run
step_core script (token.Wipe server) run = operator_step (Act.AtServer server ServerStep.Wipe) run
step_core script (token.Down server) run = operator_step (Act.AtServer server ServerStep.Down) run
step_core script (token.Up server) run = operator_step (Act.AtServer server ServerStep.Up) run
step_core script (token.ReapClient i) run = operator_step (Act.AtDirectory (DirectoryStep.Reap (actor.Client i))) run
step_core script (token.ReapRepairer i) run = operator_step (Act.AtDirectory (DirectoryStep.Reap (actor.Repairer i))) run
step_core script token.Drain run = drain script run

-- token after token
abbrev pub run_tokens : Script → List Token → Run → Run
run_tokens script [] run = run
run_tokens script (token ∷ tokens) run = run_tokens script tokens (step_core script token run)

-- the core at the end of a list of tokens, with the shortages of the steps in order
abbrev pub run_core : Script → List Shortage → List Token → Core
run_core script shortages tokens = (run_tokens script tokens (record { core = first_core script; shortages = shortages })).core
