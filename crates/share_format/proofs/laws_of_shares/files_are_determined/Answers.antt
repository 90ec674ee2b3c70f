use Rattle.share_format.proofs.AnyShares.{same_files}
use Rattle.share_format.proofs.laws_of_shares.files_are_determined.Goals as goal

pub returns : goal.returns
returns c = same_files
