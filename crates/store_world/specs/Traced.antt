-- A run of a script with its steps.
use Rattle.std.specs.Prelude.{List}
use Rattle.store_map.specs.declared.script.Script.{Script}
use Rattle.store_map.specs.declared.transcript.Transcript.{Transcript}
use Rattle.history_laws.specs.Steps.{run_trace}
use Rattle.history_laws.specs.Played.{IsPlayed}
use Rattle.call_steps.specs.declared.step_made.Step.{Step}
use Rattle.world_laws.specs.StepsTold.{AreSteps}

-- the transcript is one that a run of the script shows, and the steps are that run's trace: of the same wants of memory
pub record IsTracedRun (script : Script) (steps : List Step) (t : Transcript) : Type 0 where
  pub played : IsPlayed script t
  pub are : AreSteps steps (run_trace script played.shortages script.schedule)
