use Rattle.call_steps.proofs.Steps.{steps_at_directory, steps_at_servers}
use Rattle.call_steps.proofs.laws_of_machines.steps_are_those_of_the_definitions.Goals as goal

pub returns-clause-directory : goal.returns-clause-directory
returns-clause-directory c = steps_at_directory

pub returns-clause-servers : goal.returns-clause-servers
returns-clause-servers c = steps_at_servers
