use Rattle.share_run.proofs.JoinLemmas.{placed_is, none_other}
use Rattle.share_run.proofs.laws_of_cuts.joined_files_are_right.Goals as goal

pub returns-clause-placed : goal.returns-clause-placed
returns-clause-placed c = placed_is

pub returns-clause-other : goal.returns-clause-other
returns-clause-other c = none_other
