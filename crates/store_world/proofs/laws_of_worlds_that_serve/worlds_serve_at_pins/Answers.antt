use Rattle.store_world.proofs.WorldPins.{worlds_serve_at_pins}
use Rattle.store_world.proofs.laws_of_worlds_that_serve.worlds_serve_at_pins.Goals as goal

pub returns : goal.returns
returns c = worlds_serve_at_pins
