use Rattle.thread_laws.proofs.Served.{owed_are_served}
use Rattle.thread_laws.proofs.laws_of_serving.owed_are_served.Goals as goal

pub returns : goal.returns
returns c = owed_are_served
