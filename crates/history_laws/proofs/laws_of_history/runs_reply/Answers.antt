use Rattle.history_laws.proofs.Replayed.{runs_reply}
use Rattle.history_laws.proofs.laws_of_history.runs_reply.Goals as goal

pub returns : goal.returns
returns c = runs_reply
