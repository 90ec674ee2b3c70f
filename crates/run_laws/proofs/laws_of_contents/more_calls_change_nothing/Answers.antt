use Rattle.run_laws.proofs.MoreCalls.{more_calls_change_nothing}
use Rattle.run_laws.proofs.laws_of_contents.more_calls_change_nothing.Goals as goal

pub returns : goal.returns
returns c = more_calls_change_nothing
