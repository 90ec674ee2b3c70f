use Rattle.run_laws.proofs.StripesKept.{steps_keep_stripes}
use Rattle.run_laws.proofs.laws_of_contents.steps_keep_contents_whole.Goals as goal

pub returns : goal.returns
returns c = steps_keep_stripes
