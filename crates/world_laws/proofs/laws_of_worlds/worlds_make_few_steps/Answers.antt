use Rattle.world_laws.proofs.Few.{worlds_make_few_steps}
use Rattle.world_laws.proofs.laws_of_worlds.worlds_make_few_steps.Goals as goal

pub returns : goal.returns
returns c = worlds_make_few_steps
