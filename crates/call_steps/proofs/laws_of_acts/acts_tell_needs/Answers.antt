use Rattle.call_steps.proofs.Telling.{acts_tell_needs}
use Rattle.call_steps.proofs.laws_of_acts.acts_tell_needs.Goals as goal

pub returns : goal.returns
returns c = acts_tell_needs
