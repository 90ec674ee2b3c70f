use Rattle.world_laws.proofs.SweepsLeft.{sweeps_fall}
use Rattle.world_laws.proofs.laws_of_worlds.sweeps_fall.Goals as goal

pub returns : goal.returns
returns c = sweeps_fall
