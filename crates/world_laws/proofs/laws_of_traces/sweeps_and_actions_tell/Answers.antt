use Rattle.world_laws.proofs.Places.{sweeper_tells, operator_tells}
use Rattle.world_laws.proofs.laws_of_traces.sweeps_and_actions_tell.Goals as goal

pub returns-clause-sweeper : goal.returns-clause-sweeper
returns-clause-sweeper c = sweeper_tells

pub returns-clause-operator : goal.returns-clause-operator
returns-clause-operator c = operator_tells
