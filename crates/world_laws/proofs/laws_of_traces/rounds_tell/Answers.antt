use Rattle.world_laws.proofs.TraceRounds.{rounds_tell as law}
use Rattle.world_laws.proofs.laws_of_traces.rounds_tell.Goals as goal

pub returns : goal.returns
returns c = law
