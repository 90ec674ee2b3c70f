use Rattle.run_laws.proofs.OwnSteps.{steps_may_be_made as law}
use Rattle.run_laws.proofs.laws_of_soundness.agreement_lets_steps_be_made.Goals as goal

pub returns : goal.returns
returns c = law
