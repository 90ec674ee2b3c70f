use Rattle.world_laws.proofs.Goes.{worlds_go_on}
use Rattle.world_laws.proofs.laws_of_worlds.worlds_go_on.Goals as goal

pub returns : goal.returns
returns c script = worlds_go_on script
