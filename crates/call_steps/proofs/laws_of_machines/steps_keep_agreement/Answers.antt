use Rattle.call_steps.proofs.Agreement.{agreement_stays}
use Rattle.call_steps.proofs.laws_of_machines.steps_keep_agreement.Goals as goal

pub returns : goal.returns
returns c = agreement_stays
