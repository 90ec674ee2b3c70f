use Rattle.world_laws.proofs.PlaceLaws.{sweeper_makes_turns, operator_makes_actions}
use Rattle.world_laws.proofs.laws_of_worlds.sweeps_and_actions_are_steps.Goals as goal

pub returns-clause-sweeper : goal.returns-clause-sweeper
returns-clause-sweeper c = sweeper_makes_turns

pub returns-clause-operator : goal.returns-clause-operator
returns-clause-operator c = operator_makes_actions
