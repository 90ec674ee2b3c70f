use Rattle.run_laws.proofs.OwnSteps.{agreement_goes_on as law}
use Rattle.run_laws.proofs.laws_of_soundness.agreement_goes_on.Goals as goal

pub returns : goal.returns
returns c = law
