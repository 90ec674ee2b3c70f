use Rattle.run_laws.proofs.Ends.{answers_end_calls, targets_end_rebuilds}
use Rattle.run_laws.proofs.laws_of_calls.answers_end_calls.Goals as goal

pub returns-clause-answers : goal.returns-clause-answers
returns-clause-answers c = answers_end_calls

pub returns-clause-targets : goal.returns-clause-targets
returns-clause-targets c = targets_end_rebuilds
