use Rattle.world_laws.proofs.Runs.{runs_reach, drains_of_valid_scripts_reach}
use Rattle.world_laws.proofs.laws_of_worlds.runs_are_reached.Goals as goal

pub returns-clause-tokens : goal.returns-clause-tokens
returns-clause-tokens c = runs_reach

pub returns-clause-drains : goal.returns-clause-drains
returns-clause-drains c = drains_of_valid_scripts_reach
