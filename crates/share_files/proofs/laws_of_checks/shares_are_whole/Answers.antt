use Rattle.share_files.proofs.WholeLemmas.{share_whole}
use Rattle.share_files.proofs.laws_of_checks.shares_are_whole.Goals as goal

pub returns : goal.returns
returns c = share_whole
