use Rattle.world_laws.proofs.Shows.{worlds_show as law}
use Rattle.world_laws.proofs.laws_of_worlds.worlds_show.Goals as goal

pub returns : goal.returns
returns c = law
