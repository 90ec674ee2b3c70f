-- A drain round by round.
use Rattle.std.specs.Prelude.{◌≡◌, ℕ, zero, suc, ◌+◌, ◌≤◌, true, false, List}
use Rattle.clay_grid.specs.Limits.{IsGeometry}
use Rattle.store_map.specs.Naming.{IsValid}
use Rattle.store_map.specs.declared.actor.Token.{Token}
use Rattle.store_map.specs.declared.script.Script.{Script}
use Rattle.store_core.specs.Core.{first_core}
use Rattle.store_core.specs.Fuel.{fuel_of}
use Rattle.store_core.specs.Run.{Run}
use Rattle.store_core.specs.Schedule.{is_unfinished, round, drain, run_tokens}
use Rattle.store_core.specs.Step.{Shortage}

-- so many rounds
abbrev pub rounds : ℕ → Script → Run → Run
rounds zero script run = run
rounds (suc n) script run = round script (rounds n script run)

-- the rounds that are made with some fuel
abbrev pub rounds_by : ℕ → Script → Run → ℕ
rounds_by zero script run = 0
rounds_by (suc fuel) script run = elim (is_unfinished script run.core) [ true ↦ suc (rounds_by fuel script (round script run)) | false ↦ 0 ]

-- the rounds that a drain makes
abbrev pub rounds_left : Script → Run → ℕ
rounds_left script run = rounds_by (fuel_of script run.core) script run

-- where nobody has a step a drain changes nothing; otherwise it is a round and the drain after it, which makes one round less
pub record GoesByRounds (script : Script) (run : Run) : Type 0 where
  pub over : is_unfinished script run.core ≡ false → (drain script run ≡ run) × (rounds_left script run ≡ 0)
  pub goes_on :
      is_unfinished script run.core ≡ true →
      (drain script run ≡ drain script (round script run)) × (rounds_left script run ≡ rounds_left script (round script run) + 1)
  pub few : rounds_left script run ≤ fuel_of script run.core

-- so it is in every run of a valid script, also within a drain, whatever was wanting of memory
abbrev pub DrainsGoByRounds : Type 0
DrainsGoByRounds =
    (script : Script) (shortages : List Shortage) → IsGeometry script.geometry → IsValid script →
    (tokens : List Token) (n : ℕ) → GoesByRounds script (rounds n script (run_tokens script tokens (record { core = first_core script; shortages = shortages })))
