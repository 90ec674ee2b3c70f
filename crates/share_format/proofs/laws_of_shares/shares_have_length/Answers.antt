use Rattle.share_format.proofs.Blocks.{share_has_length}
use Rattle.share_format.proofs.laws_of_shares.shares_have_length.Goals as goal

pub returns : goal.returns
returns c = share_has_length
