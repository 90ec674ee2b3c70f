-- A schedule step by step: a drain is its rounds, and a round is a token for each actor.
use Rattle.std.specs.Prelude.{ℕ, zero, suc, Bool, true, false, List, [], ◌∷◌, ◌++◌, length, map}
use Rattle.std.specs.List.{range_with_len}
use Rattle.store_map.specs.declared.actor.Token.{Token}
use Rattle.store_map.specs.declared.actor.Token.TheVariants as token
use Rattle.store_map.specs.declared.script.Script.{Script}
use Rattle.store_core.specs.Core.{first_core, sweeper_has_step}
use Rattle.store_core.specs.Fuel.{fuel_of}
use Rattle.store_core.specs.Run.{Run}
use Rattle.store_core.specs.Schedule.{is_unfinished, round, drain, step_core, run_tokens}
use Rattle.store_core.specs.Step.{Shortage}
use Rattle.history_laws.specs.Trace.{Made, trace_of}

-- each client, then each repairer
abbrev pub actors_round : Script → List Token
actors_round script = map token.Client (range_with_len 0 (length script.clients)) ++ map token.Repairer (range_with_len 0 (length script.repairers))

-- then the sweeper, if it has a step
abbrev pub sweep_token : Bool → List Token
sweep_token true = token.Sweep ∷ []
sweep_token false = []

-- a round from a run on
abbrev pub round_steps : Script → Run → List Token
round_steps script run = actors_round script ++ sweep_token (sweeper_has_step (run_tokens script (actors_round script) run).core)

-- rounds until none has a step
abbrev pub drain_steps : ℕ → Script → Run → List Token
drain_steps zero script run = []
drain_steps (suc fuel) script run = elim (is_unfinished script run.core) [ true ↦ round_steps script run ++ drain_steps fuel script (round script run) | false ↦ [] ]

-- the tokens with each drain as its steps
abbrev pub steps_of : Script → List Token → Run → List Token
steps_of script [] run = []
steps_of script (token.Drain ∷ tokens) run = drain_steps (fuel_of script run.core) script run ++ steps_of script tokens (drain script run)
steps_of script (next ∷ tokens) run = next ∷ steps_of script tokens (step_core script next run)

-- before the first step
abbrev pub first_run : Script → List Shortage → Run
first_run script shortages = record { core = first_core script; shortages = shortages }

-- the trace of a whole run
abbrev pub run_trace : Script → List Shortage → List Token → List Made
run_trace script shortages tokens = trace_of script (steps_of script tokens (first_run script shortages)) (first_run script shortages)
