use Rattle.std.proofs.Common.{refl}
use Rattle.clay_grid.specs.Layers.{digits_of}
use Rattle.store_core.proofs.rows_of_runs.rows_of_losses_at_every_place_of_a_put.Goals as goal

pub returns-clause-one : goal.returns-clause-one
unfolding digits_of
returns-clause-one c = record { before = refl; after = refl }

pub returns-clause-three : goal.returns-clause-three
unfolding digits_of
returns-clause-three c = record { none = refl; one = refl; two = refl; all = refl }
