use Rattle.thread_laws.proofs.Calling.{calls_know_themselves}
use Rattle.thread_laws.proofs.laws_of_lists.calls_know_themselves.Goals as goal

pub returns : goal.returns
returns c = calls_know_themselves
