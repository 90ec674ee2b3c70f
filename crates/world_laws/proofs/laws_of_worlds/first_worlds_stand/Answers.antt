use Rattle.world_laws.proofs.Firsts.{first_worlds_stand as law}
use Rattle.world_laws.proofs.laws_of_worlds.first_worlds_stand.Goals as goal

pub returns : goal.returns
returns c = law
