use Rattle.std.proofs.Common.{refl}
use Rattle.clay_grid.specs.Layers.{digits_of}
use Rattle.clay_repair.proofs.laws_of_plain_repairs.worked_repairs.Goals as goal

pub returns-clause-data : goal.returns-clause-data
unfolding digits_of
returns-clause-data c = refl

pub returns-clause-parity : goal.returns-clause-parity
unfolding digits_of
returns-clause-parity c = refl
