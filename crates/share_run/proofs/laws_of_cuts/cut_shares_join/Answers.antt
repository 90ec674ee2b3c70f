use Rattle.share_run.proofs.MadeLemmas.{cut_joined}
use Rattle.share_run.proofs.laws_of_cuts.cut_shares_join.Goals as goal

pub returns : goal.returns
returns c = cut_joined
