use Rattle.history_laws.proofs.Shows.{runs_show_histories}
use Rattle.history_laws.proofs.laws_of_answers.runs_show_histories.Goals as goal

pub returns : goal.returns
returns c = runs_show_histories
