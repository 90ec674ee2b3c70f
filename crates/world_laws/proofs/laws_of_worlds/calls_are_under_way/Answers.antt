use Rattle.world_laws.proofs.UnderWay.{calls_are_under_way as law}
use Rattle.world_laws.proofs.laws_of_worlds.calls_are_under_way.Goals as goal

pub returns : goal.returns
returns c = law
