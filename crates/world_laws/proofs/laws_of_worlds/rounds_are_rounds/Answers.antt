use Rattle.world_laws.proofs.Ends.{ends_are_known}
use Rattle.world_laws.proofs.Rounds.{rounds_are_rounds as law}
use Rattle.world_laws.proofs.laws_of_worlds.rounds_are_rounds.Goals as goal

pub returns-clause-ends : goal.returns-clause-ends
returns-clause-ends c = ends_are_known

pub returns-clause-rounds : goal.returns-clause-rounds
returns-clause-rounds c = law
