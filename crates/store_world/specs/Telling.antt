-- What a world tells of the steps that were made in it.
use Rattle.std.specs.Prelude.{ℕ, List, [], ◌∷◌, Option, None, Some, false}
use Rattle.store_map.specs.declared.actor.Actor.{Actor}
use Rattle.store_map.specs.declared.actor.Token.{Token}
use Rattle.history_laws.specs.Trace.{Made}
use Rattle.store_map.specs.declared.actor.Actor.TheVariants as actor
use Rattle.store_map.specs.declared.actor.Point.{Point}
use Rattle.call_steps.specs.declared.act.Act.{Act}
use Rattle.call_steps.specs.declared.act.Act.TheVariants as act
use Rattle.call_steps.specs.declared.act.DirectoryAct.TheVariants as there
use Rattle.call_steps.specs.declared.act.ServerAct.{ServerAct}
use Rattle.call_steps.specs.declared.answer.DirectoryAnswer.TheVariants as said
use Rattle.call_steps.specs.declared.answer.ServerAnswer.TheVariants as done
use Rattle.call_steps.specs.declared.step_made.StepAnswer.{StepAnswer}
use Rattle.call_steps.specs.declared.step_made.StepAnswer.TheVariants as answer
use Rattle.call_steps.specs.declared.step_made.Step.{Step}
use Rattle.world_laws.specs.StepsTold.{AreSteps}
use Rattle.world_laws.specs.Telling.{LeadsTelling}
use Rattle.store_world.specs.Stored.{StoredWorld, world_of}

-- a token leads from the one world to the other, and these are the steps that it makes
pub record LeadsTold (token : Token) (before after : StoredWorld) (steps : List Step) : Type 0 where
  pub made : List Made
  pub leads : LeadsTelling before.script (token ∷ []) (world_of before) (world_of after) made
  pub are : AreSteps steps made

-- one step, or none
abbrev pub steps_in : Option Step → List Step
steps_in None = []
steps_in (Some step) = step ∷ []

-- a step of an actor without calls
abbrev pub act_told : Actor → Act → StepAnswer → Step
act_told who act answer = record { who = who; number = 0; short = false; act = act; answer = answer }

-- the operator's, at a server, and where a pass is given up
abbrev pub server_act_told : ℕ → ServerAct → Step
server_act_told server step = act_told actor.Operator (act.Server server step) (answer.Server done.Made)

abbrev pub reap_told : Actor → Option Point → Step
reap_told reaped at = act_told actor.Operator (act.Directory (there.Reap reaped)) (answer.Directory (said.GivenUp at))
