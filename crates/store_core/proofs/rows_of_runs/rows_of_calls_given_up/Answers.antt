use Rattle.std.proofs.Common.{refl}
use Rattle.clay_grid.specs.Layers.{digits_of}
use Rattle.store_core.proofs.rows_of_runs.rows_of_calls_given_up.Goals as goal

pub returns-clause-left_before_commit : goal.returns-clause-left_before_commit
unfolding digits_of
returns-clause-left_before_commit c = refl

pub returns-clause-left_after_commit : goal.returns-clause-left_after_commit
unfolding digits_of
returns-clause-left_after_commit c = refl

pub returns-clause-reaped_before_commit : goal.returns-clause-reaped_before_commit
unfolding digits_of
returns-clause-reaped_before_commit c = refl

pub returns-clause-strays_of_a_reaped_put : goal.returns-clause-strays_of_a_reaped_put
unfolding digits_of
returns-clause-strays_of_a_reaped_put c = refl
