use Rattle.thread_laws.proofs.Stepping.{steps_keep_owing}
use Rattle.thread_laws.proofs.laws_of_serving.steps_keep_owing.Goals as goal

pub returns : goal.returns
returns c = steps_keep_owing
