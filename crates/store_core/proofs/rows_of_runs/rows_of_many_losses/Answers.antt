use Rattle.std.proofs.Common.{refl}
use Rattle.clay_grid.specs.Layers.{digits_of}
use Rattle.store_core.proofs.rows_of_runs.rows_of_many_losses.Goals as goal

pub returns-clause-read_after_two_losses : goal.returns-clause-read_after_two_losses
unfolding digits_of
returns-clause-read_after_two_losses c = refl

pub returns-clause-read_after_three_losses : goal.returns-clause-read_after_three_losses
unfolding digits_of
returns-clause-read_after_three_losses c = refl

pub returns-clause-one_of_three_lost : goal.returns-clause-one_of_three_lost
unfolding digits_of
returns-clause-one_of_three_lost c = refl

pub returns-clause-three_of_three_lost : goal.returns-clause-three_of_three_lost
unfolding digits_of
returns-clause-three_of_three_lost c = refl
