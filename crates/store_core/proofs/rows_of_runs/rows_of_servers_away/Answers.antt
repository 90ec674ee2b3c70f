use Rattle.std.proofs.Common.{refl}
use Rattle.clay_grid.specs.Layers.{digits_of}
use Rattle.store_core.proofs.rows_of_runs.rows_of_servers_away.Goals as goal

pub returns-clause-skipped_by_a_put : goal.returns-clause-skipped_by_a_put
unfolding digits_of
returns-clause-skipped_by_a_put c = refl

pub returns-clause-refused_put : goal.returns-clause-refused_put
unfolding digits_of
returns-clause-refused_put c = refl

pub returns-clause-refused_write : goal.returns-clause-refused_write
unfolding digits_of
returns-clause-refused_write c = refl

pub returns-clause-away_and_emptied : goal.returns-clause-away_and_emptied
unfolding digits_of
returns-clause-away_and_emptied c = refl

pub returns-clause-away_twice_and_emptied : goal.returns-clause-away_twice_and_emptied
unfolding digits_of
returns-clause-away_twice_and_emptied c = refl

pub returns-clause-rebuild_of_an_away_server : goal.returns-clause-rebuild_of_an_away_server
unfolding digits_of
returns-clause-rebuild_of_an_away_server c = refl

pub returns-clause-refused_at_the_second_stripe : goal.returns-clause-refused_at_the_second_stripe
unfolding digits_of
returns-clause-refused_at_the_second_stripe c = refl
