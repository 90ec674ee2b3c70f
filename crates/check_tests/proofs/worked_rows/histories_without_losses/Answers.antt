use Rattle.std.proofs.Common.{refl}
use Rattle.store_core.specs.RowsCalls.{put_then_get, empty_object, each_refusal}
use Rattle.store_core.specs.RowsShort.{put_without_memory}
use Rattle.hist_rules.proofs.HistoryLaw.{legal_is_history}
use Rattle.store_core.specs.RowsRaces.{read_of_a_replaced_version, lost_race, race_tried_again}
use Rattle.store_core.specs.RowsGivenUp.{left_before_commit, left_after_commit, reaped_before_commit, strays_of_a_reaped_put}
use Rattle.check_tests.proofs.worked_rows.histories_without_losses.Goals as goal

pub returns-clause-put_then_get : goal.returns-clause-put_then_get
returns-clause-put_then_get c = (legal_is_history put_then_get.script put_then_get.transcript).0 refl

pub returns-clause-empty_object : goal.returns-clause-empty_object
returns-clause-empty_object c = (legal_is_history empty_object.script empty_object.transcript).0 refl

pub returns-clause-each_refusal : goal.returns-clause-each_refusal
returns-clause-each_refusal c = (legal_is_history each_refusal.script each_refusal.transcript).0 refl

pub returns-clause-put_without_memory : goal.returns-clause-put_without_memory
returns-clause-put_without_memory c = (legal_is_history put_without_memory.script put_without_memory.transcript).0 refl

pub returns-clause-read_of_a_replaced_version : goal.returns-clause-read_of_a_replaced_version
returns-clause-read_of_a_replaced_version c = (legal_is_history read_of_a_replaced_version.script read_of_a_replaced_version.transcript).0 refl

pub returns-clause-lost_race : goal.returns-clause-lost_race
returns-clause-lost_race c = (legal_is_history lost_race.script lost_race.transcript).0 refl

pub returns-clause-race_tried_again : goal.returns-clause-race_tried_again
returns-clause-race_tried_again c = (legal_is_history race_tried_again.script race_tried_again.transcript).0 refl

pub returns-clause-left_before_commit : goal.returns-clause-left_before_commit
returns-clause-left_before_commit c = (legal_is_history left_before_commit.script left_before_commit.transcript).0 refl

pub returns-clause-left_after_commit : goal.returns-clause-left_after_commit
returns-clause-left_after_commit c = (legal_is_history left_after_commit.script left_after_commit.transcript).0 refl

pub returns-clause-reaped_before_commit : goal.returns-clause-reaped_before_commit
returns-clause-reaped_before_commit c = (legal_is_history reaped_before_commit.script reaped_before_commit.transcript).0 refl

pub returns-clause-strays_of_a_reaped_put : goal.returns-clause-strays_of_a_reaped_put
returns-clause-strays_of_a_reaped_put c = (legal_is_history strays_of_a_reaped_put.script strays_of_a_reaped_put.transcript).0 refl
