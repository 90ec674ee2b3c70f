use Rattle.std.proofs.Common.{refl}
use Rattle.clay_grid.specs.Layers.{digits_of}
use Rattle.store_core.proofs.rows_of_runs.rows_of_races.Goals as goal

pub returns-clause-read_of_a_replaced_version : goal.returns-clause-read_of_a_replaced_version
unfolding digits_of
returns-clause-read_of_a_replaced_version c = refl

pub returns-clause-lost_race : goal.returns-clause-lost_race
unfolding digits_of
returns-clause-lost_race c = refl

pub returns-clause-race_tried_again : goal.returns-clause-race_tried_again
unfolding digits_of
returns-clause-race_tried_again c = refl
