use Rattle.call_steps.proofs.Needs.{needs_tell_acts, ends_stay}
use Rattle.call_steps.proofs.laws_of_machines.needs_tell_acts.Goals as goal

pub returns-clause-acts : goal.returns-clause-acts
returns-clause-acts c = needs_tell_acts

pub returns-clause-ends : goal.returns-clause-ends
returns-clause-ends c = ends_stay
