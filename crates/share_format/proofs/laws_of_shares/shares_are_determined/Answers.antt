use Rattle.share_format.proofs.Determined.{same_shares}
use Rattle.share_format.proofs.laws_of_shares.shares_are_determined.Goals as goal

pub returns : goal.returns
returns c = same_shares
