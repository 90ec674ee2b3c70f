use Rattle.std.proofs.Common.{refl}
use Rattle.store_core.specs.RowsOneLoss.{read_after_one_loss, loss_before_prepare, loss_after_prepare, loss_before_old_bytes}
use Rattle.hist_rules.proofs.HistoryLaw.{legal_is_history}
use Rattle.store_core.specs.RowsManyLosses.{read_after_two_losses, read_after_three_losses, one_of_three_lost, three_of_three_lost}
use Rattle.store_core.specs.RowsRebuilds.{superseded_rebuild, rebuilt_then_here}
use Rattle.store_core.specs.RowsRebuildLosses.{loss_while_looking, loss_while_fetching}
use Rattle.check_tests.proofs.worked_rows.histories_with_losses.Goals as goal

pub returns-clause-read_after_one_loss : goal.returns-clause-read_after_one_loss
returns-clause-read_after_one_loss c = (legal_is_history read_after_one_loss.script read_after_one_loss.transcript).0 refl

pub returns-clause-loss_before_prepare : goal.returns-clause-loss_before_prepare
returns-clause-loss_before_prepare c = (legal_is_history loss_before_prepare.script loss_before_prepare.transcript).0 refl

pub returns-clause-loss_after_prepare : goal.returns-clause-loss_after_prepare
returns-clause-loss_after_prepare c = (legal_is_history loss_after_prepare.script loss_after_prepare.transcript).0 refl

pub returns-clause-loss_before_old_bytes : goal.returns-clause-loss_before_old_bytes
returns-clause-loss_before_old_bytes c = (legal_is_history loss_before_old_bytes.script loss_before_old_bytes.transcript).0 refl

pub returns-clause-read_after_two_losses : goal.returns-clause-read_after_two_losses
returns-clause-read_after_two_losses c = (legal_is_history read_after_two_losses.script read_after_two_losses.transcript).0 refl

pub returns-clause-read_after_three_losses : goal.returns-clause-read_after_three_losses
returns-clause-read_after_three_losses c = (legal_is_history read_after_three_losses.script read_after_three_losses.transcript).0 refl

pub returns-clause-one_of_three_lost : goal.returns-clause-one_of_three_lost
returns-clause-one_of_three_lost c = (legal_is_history one_of_three_lost.script one_of_three_lost.transcript).0 refl

pub returns-clause-three_of_three_lost : goal.returns-clause-three_of_three_lost
returns-clause-three_of_three_lost c = (legal_is_history three_of_three_lost.script three_of_three_lost.transcript).0 refl

pub returns-clause-superseded_rebuild : goal.returns-clause-superseded_rebuild
returns-clause-superseded_rebuild c = (legal_is_history superseded_rebuild.script superseded_rebuild.transcript).0 refl

pub returns-clause-rebuilt_then_here : goal.returns-clause-rebuilt_then_here
returns-clause-rebuilt_then_here c = (legal_is_history rebuilt_then_here.script rebuilt_then_here.transcript).0 refl

pub returns-clause-loss_while_looking : goal.returns-clause-loss_while_looking
returns-clause-loss_while_looking c = (legal_is_history loss_while_looking.script loss_while_looking.transcript).0 refl

pub returns-clause-loss_while_fetching : goal.returns-clause-loss_while_fetching
returns-clause-loss_while_fetching c = (legal_is_history loss_while_fetching.script loss_while_fetching.transcript).0 refl
