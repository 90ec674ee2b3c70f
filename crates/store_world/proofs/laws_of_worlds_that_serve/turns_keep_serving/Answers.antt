use Rattle.store_world.proofs.Serving.{is_of_map, turns_keep_serving}
use Rattle.store_world.proofs.OwesTurns.{turns_serve}
use Rattle.store_world.proofs.laws_of_worlds_that_serve.turns_keep_serving.Goals as goal

pub returns-clause-turns : goal.returns-clause-turns
returns-clause-turns c = turns_serve

pub returns-clause-directories : goal.returns-clause-directories
returns-clause-directories c = is_of_map

pub returns-clause-worlds : goal.returns-clause-worlds
returns-clause-worlds c = turns_keep_serving
