use Rattle.history_laws.proofs.Stepwise.{drains_are_steps}
use Rattle.history_laws.proofs.laws_of_time.drains_are_steps.Goals as goal

pub returns : goal.returns
returns c = drains_are_steps
