use Rattle.world_laws.proofs.TraceDrains.{drains_of_valid_scripts_tell as law}
use Rattle.world_laws.proofs.laws_of_traces.drains_tell.Goals as goal

pub returns : goal.returns
returns c = law
