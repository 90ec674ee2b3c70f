use Rattle.share_run.proofs.MadeLemmas.{cut_rebuilt, cut_mended, cut_unstopped}
use Rattle.share_run.proofs.laws_of_cuts.cut_shares_mend.Goals as goal

pub returns-clause-blocks : goal.returns-clause-blocks
returns-clause-blocks c = cut_rebuilt

pub returns-clause-parts : goal.returns-clause-parts
returns-clause-parts c = cut_mended

pub returns-clause-stops : goal.returns-clause-stops
returns-clause-stops c = cut_unstopped
