use Rattle.world_laws.proofs.TurnLaws.{clients_make_turns, repairers_make_turns}
use Rattle.world_laws.proofs.laws_of_worlds.turns_are_steps.Goals as goal

pub returns-clause-clients : goal.returns-clause-clients
returns-clause-clients c = clients_make_turns

pub returns-clause-repairers : goal.returns-clause-repairers
returns-clause-repairers c = repairers_make_turns
