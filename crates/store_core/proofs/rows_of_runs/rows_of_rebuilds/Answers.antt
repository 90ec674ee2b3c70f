use Rattle.std.proofs.Common.{refl}
use Rattle.clay_grid.specs.Layers.{digits_of}
use Rattle.store_core.proofs.rows_of_runs.rows_of_rebuilds.Goals as goal

pub returns-clause-superseded_rebuild : goal.returns-clause-superseded_rebuild
unfolding digits_of
returns-clause-superseded_rebuild c = refl

pub returns-clause-rebuilt_then_here : goal.returns-clause-rebuilt_then_here
unfolding digits_of
returns-clause-rebuilt_then_here c = refl
