use Rattle.std.proofs.Common.{refl}
use Rattle.clay_grid.specs.Layers.{digits_of}
use Rattle.store_core.proofs.rows_of_runs.rows_of_wanting_memory.Goals as goal

pub returns-clause-look : goal.returns-clause-look
unfolding digits_of
returns-clause-look c = refl

pub returns-clause-draw : goal.returns-clause-draw
unfolding digits_of
returns-clause-draw c = refl

pub returns-clause-encoding : goal.returns-clause-encoding
unfolding digits_of
returns-clause-encoding c = refl

pub returns-clause-prepare : goal.returns-clause-prepare
unfolding digits_of
returns-clause-prepare c = refl

pub returns-clause-commit : goal.returns-clause-commit
unfolding digits_of
returns-clause-commit c = refl
