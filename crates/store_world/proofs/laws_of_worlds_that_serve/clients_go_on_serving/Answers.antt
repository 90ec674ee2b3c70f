use Rattle.store_world.proofs.Serving.{clients_go_on_serving}
use Rattle.store_world.proofs.laws_of_worlds_that_serve.clients_go_on_serving.Goals as goal

pub returns : goal.returns
returns c script = clients_go_on_serving script
