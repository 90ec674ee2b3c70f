use Rattle.history_laws.proofs.Overs.{runs_tell_ends}
use Rattle.history_laws.proofs.laws_of_answers.runs_tell_ends.Goals as goal

pub returns : goal.returns
returns c = runs_tell_ends
