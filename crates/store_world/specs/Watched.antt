-- Steps that a watch is told of a part of a run.
use Rattle.std.specs.Prelude.{List}
use Rattle.store_map.specs.declared.actor.Token.{Token}
use Rattle.store_map.specs.declared.script.Script.{Script}
use Rattle.store_core.specs.Step.{Shortage}
use Rattle.history_laws.specs.Trace.{Made}
use Rattle.call_steps.specs.declared.step_made.Step.{Step}
use Rattle.world_laws.specs.StepsTold.{AreSteps}
use Rattle.world_laws.specs.World.{WorldOf}
use Rattle.world_laws.specs.Traced.{IsTracedBy}

-- it was told the steps of which this is true, and no others
pub record Watched (Heard : List Step → Type 0) (Tells : List Made → Type 0) : Type 0 where
  pub steps : List Step
  pub heard : Heard steps
  pub made : List Made
  pub are : AreSteps steps made
  pub tells : Tells made

-- the run of these tokens comes to the world, and these are its steps: with the shortages that it uses up and no others
pub record ComesBy (script : Script) (tokens : List Token) (w : WorldOf) (made : List Made) : Type 0 where
  pub shortages : List Shortage
  pub by : IsTracedBy script tokens shortages w made
