use Rattle.world_laws.proofs.Drains.{drains_of_valid_scripts_go}
use Rattle.world_laws.proofs.laws_of_worlds.drains_go.Goals as goal

pub returns : goal.returns
returns c = drains_of_valid_scripts_go
