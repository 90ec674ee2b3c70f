-- Steps of the sweeper and the operator, who have no call.
use Rattle.std.specs.Prelude.{◌≡◌, ℕ, ◌<◌, List, [], ◌∷◌, ◌++◌, length, Some}
use mathlib.Core.List.{IsPrefix}
use Rattle.clay_grid.specs.Shape.{chunk_count}
use Rattle.store_map.specs.declared.actor.Actor.{Actor}
use Rattle.store_map.specs.declared.actor.Actor.TheVariants as actor
use Rattle.store_map.specs.declared.actor.Token.{Token}
use Rattle.store_map.specs.declared.script.Script.{Script}
use Rattle.store_core.specs.Told.{Told}
use Rattle.store_core.specs.Act.{Act, DirectoryStep, ServerStep}
use Rattle.store_core.specs.Sweep.{Sweeper, next_sweep, after_sweep}
use Rattle.thread_laws.specs.MadeSteps.{MadeStep}
use Rattle.thread_laws.specs.ByActors.{no_shortage}
use Rattle.thread_laws.specs.Lines.{operator_act}
use Rattle.turn_lock.specs.History.{entries_of}
use Rattle.thread_laws.specs.Noted.{Noted}
use Rattle.thread_laws.specs.Logs.{Logs, log_of, own_at}
use Rattle.thread_laws.specs.Callers.{IsSweeping, IsOperating}
use Rattle.thread_laws.specs.Stepped.{with_log, with_notes, last_own}

-- a step without a call
abbrev pub plain_step : Actor → Act → Told → ℕ → MadeStep
plain_step who act answer moment = record { actor = who; number = 0; shortage = no_shortage; act = act; answer = answer; moment = moment }

-- under a number there is one entry more, of such a step, made after the last one of its actor
pub record HasAddedAtServer (number last : ℕ) (seen now : List (ℕ × MadeStep)) (who : Actor) (act : Act) : Type 0 where
  pub answer : Told
  pub moment : ℕ
  pub above : last < moment
  pub goes : IsPrefix seen now
  pub more : entries_of number now ≡ entries_of number seen ++ (number, plain_step who act answer moment) ∷ []

-- at the directory, where it draws no stamps
pub record HasAddedAtDirectory (number last : ℕ) (seen now : List (ℕ × Noted)) (who : Actor) (act : Act) : Type 0 where
  pub answer : Told
  pub moment : ℕ
  pub above : last < moment
  pub goes : IsPrefix seen now
  pub more : entries_of number now ≡ entries_of number seen ++ (number, record { made = plain_step who act answer moment; drawn = [] }) ∷ []

-- the sweeper after its next step, at a server and at the directory
pub record SweepersGoOn (script : Script) (number : ℕ) (seen : Logs) (s : Sweeper) : Type 0 where
  pub at_server :
      (server : ℕ) (step : ServerStep) (now : List (ℕ × MadeStep)) → length seen.servers ≡ chunk_count script.geometry → server < chunk_count script.geometry →
      next_sweep (chunk_count script.geometry) s ≡ Act.AtServer server step →
      (added : HasAddedAtServer number (last_own (chunk_count script.geometry) number seen) (log_of seen server) now actor.Sweeper (Act.AtServer server step)) →
      IsSweeping script (own_at number (with_log server now seen)) (after_sweep (chunk_count script.geometry) s added.answer)
  pub at_directory :
      (step : DirectoryStep) (now : List (ℕ × Noted)) → next_sweep (chunk_count script.geometry) s ≡ Act.AtDirectory step →
      (added : HasAddedAtDirectory number (last_own (chunk_count script.geometry) number seen) seen.directory now actor.Sweeper (Act.AtDirectory step)) →
      IsSweeping script (own_at number (with_notes now seen)) (after_sweep (chunk_count script.geometry) s added.answer)

-- the operator after the step of its next line
pub record OperatorsGoOn (script : Script) (number : ℕ) (seen : Logs) (line : Token) (left : List Token) : Type 0 where
  pub at_server :
      (server : ℕ) (step : ServerStep) (now : List (ℕ × MadeStep)) → length seen.servers ≡ chunk_count script.geometry → server < chunk_count script.geometry →
      operator_act line ≡ Some (Act.AtServer server step) →
      HasAddedAtServer number (last_own (chunk_count script.geometry) number seen) (log_of seen server) now actor.Operator (Act.AtServer server step) →
      IsOperating script (own_at number (with_log server now seen)) left
  pub at_directory :
      (step : DirectoryStep) (now : List (ℕ × Noted)) → operator_act line ≡ Some (Act.AtDirectory step) →
      HasAddedAtDirectory number (last_own (chunk_count script.geometry) number seen) seen.directory now actor.Operator (Act.AtDirectory step) →
      IsOperating script (own_at number (with_notes now seen)) left

abbrev pub SweepingGoesOn : Type 0
SweepingGoesOn = (script : Script) (number : ℕ) (seen : Logs) (s : Sweeper) → IsSweeping script (own_at number seen) s → SweepersGoOn script number seen s

abbrev pub OperatingGoesOn : Type 0
OperatingGoesOn =
    (script : Script) (number : ℕ) (seen : Logs) (line : Token) (left : List Token) → IsOperating script (own_at number seen) (line ∷ left) →
    OperatorsGoOn script number seen line left
