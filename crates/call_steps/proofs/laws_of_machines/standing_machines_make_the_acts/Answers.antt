use Rattle.call_steps.proofs.Codings.{acts_stand}
use Rattle.call_steps.proofs.laws_of_machines.standing_machines_make_the_acts.Goals as goal

pub returns : goal.returns
returns c = acts_stand
