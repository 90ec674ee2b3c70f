use Rattle.std.proofs.Common.{refl}
use Rattle.store_core.specs.RowsAway.{skipped_by_a_put, refused_put}
use Rattle.store_core.specs.RowsAwayReads.{away_and_emptied, away_twice_and_emptied, rebuild_of_an_away_server}
use Rattle.hist_rules.proofs.HistoryLaw.{legal_is_history}
use Rattle.store_core.specs.RowsLarge.{many_actors, no_calls}
use Rattle.check_tests.proofs.worked_rows.histories_of_servers_away_and_large_scripts.Goals as goal

pub returns-clause-skipped_by_a_put : goal.returns-clause-skipped_by_a_put
returns-clause-skipped_by_a_put c = (legal_is_history skipped_by_a_put.script skipped_by_a_put.transcript).0 refl

pub returns-clause-refused_put : goal.returns-clause-refused_put
returns-clause-refused_put c = (legal_is_history refused_put.script refused_put.transcript).0 refl

pub returns-clause-away_and_emptied : goal.returns-clause-away_and_emptied
returns-clause-away_and_emptied c = (legal_is_history away_and_emptied.script away_and_emptied.transcript).0 refl

pub returns-clause-away_twice_and_emptied : goal.returns-clause-away_twice_and_emptied
returns-clause-away_twice_and_emptied c = (legal_is_history away_twice_and_emptied.script away_twice_and_emptied.transcript).0 refl

pub returns-clause-rebuild_of_an_away_server : goal.returns-clause-rebuild_of_an_away_server
returns-clause-rebuild_of_an_away_server c = (legal_is_history rebuild_of_an_away_server.script rebuild_of_an_away_server.transcript).0 refl

pub returns-clause-many_actors : goal.returns-clause-many_actors
returns-clause-many_actors c = (legal_is_history many_actors.script many_actors.transcript).0 refl

pub returns-clause-no_calls : goal.returns-clause-no_calls
returns-clause-no_calls c = (legal_is_history no_calls.script no_calls.transcript).0 refl
