use Rattle.share_files.proofs.Bytes.{stripe_right}
use Rattle.share_files.proofs.laws_of_joins.joined_stripes_are_right.Goals as goal

pub returns : goal.returns
returns c = stripe_right
