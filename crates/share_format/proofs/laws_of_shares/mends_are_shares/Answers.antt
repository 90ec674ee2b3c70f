use Rattle.share_format.proofs.Mended.{mended_share}
use Rattle.share_format.proofs.laws_of_shares.mends_are_shares.Goals as goal

pub returns : goal.returns
returns c = mended_share
