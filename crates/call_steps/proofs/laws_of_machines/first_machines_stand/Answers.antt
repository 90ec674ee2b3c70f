use Rattle.call_steps.proofs.Acts.{firsts_stand}
use Rattle.call_steps.proofs.laws_of_machines.first_machines_stand.Goals as goal

pub returns : goal.returns
returns c = firsts_stand
