use Rattle.std.proofs.Common.{refl}
use Rattle.clay_grid.specs.Layers.{digits_of}
use Rattle.store_core.proofs.rows_of_runs.rows_of_large_scripts.Goals as goal

pub returns-clause-many_actors : goal.returns-clause-many_actors
unfolding digits_of
returns-clause-many_actors c = refl

pub returns-clause-no_calls : goal.returns-clause-no_calls
unfolding digits_of
returns-clause-no_calls c = refl
