use Rattle.store_world.proofs.Serving.{served_is_owed}
use Rattle.store_world.proofs.laws_of_worlds_that_serve.served_is_owed.Goals as goal

pub returns : goal.returns
returns c = served_is_owed
