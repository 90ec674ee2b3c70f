use Rattle.run_laws.proofs.MoreCalls.{steps_keep_drawn}
use Rattle.run_laws.proofs.laws_of_contents.versions_are_drawn_by_calls.Goals as goal

pub returns : goal.returns
returns c = steps_keep_drawn
