use Rattle.hist_rules.proofs.HistoryLaw.{legal_is_history}
use Rattle.hist_rules.proofs.laws_of_order.legal_transcripts_are_histories.Goals as goal

pub returns : goal.returns
returns c = legal_is_history
