use Rattle.run_laws.proofs.Causes.{outcomes_have_causes}
use Rattle.run_laws.proofs.laws_of_calls.outcomes_have_causes.Goals as goal

pub returns : goal.returns
returns c = outcomes_have_causes
