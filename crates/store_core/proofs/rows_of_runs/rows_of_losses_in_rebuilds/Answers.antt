use Rattle.std.proofs.Common.{refl}
use Rattle.clay_grid.specs.Layers.{digits_of}
use Rattle.store_core.proofs.rows_of_runs.rows_of_losses_in_rebuilds.Goals as goal

pub returns-clause-loss_while_looking : goal.returns-clause-loss_while_looking
unfolding digits_of
returns-clause-loss_while_looking c = refl

pub returns-clause-loss_while_fetching : goal.returns-clause-loss_while_fetching
unfolding digits_of
returns-clause-loss_while_fetching c = refl
