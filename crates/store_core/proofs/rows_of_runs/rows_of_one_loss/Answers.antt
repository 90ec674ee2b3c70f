use Rattle.std.proofs.Common.{refl}
use Rattle.clay_grid.specs.Layers.{digits_of}
use Rattle.store_core.proofs.rows_of_runs.rows_of_one_loss.Goals as goal

pub returns-clause-read_after_one_loss : goal.returns-clause-read_after_one_loss
unfolding digits_of
returns-clause-read_after_one_loss c = refl

pub returns-clause-loss_before_prepare : goal.returns-clause-loss_before_prepare
unfolding digits_of
returns-clause-loss_before_prepare c = refl

pub returns-clause-loss_after_prepare : goal.returns-clause-loss_after_prepare
unfolding digits_of
returns-clause-loss_after_prepare c = refl

pub returns-clause-loss_before_old_bytes : goal.returns-clause-loss_before_old_bytes
unfolding digits_of
returns-clause-loss_before_old_bytes c = refl
