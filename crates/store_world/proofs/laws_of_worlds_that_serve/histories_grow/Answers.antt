use Rattle.store_world.proofs.Grow.{histories_grow}
use Rattle.store_world.proofs.laws_of_worlds_that_serve.histories_grow.Goals as goal

pub returns : goal.returns
returns c = histories_grow
