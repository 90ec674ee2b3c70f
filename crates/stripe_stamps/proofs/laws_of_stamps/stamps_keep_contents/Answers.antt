use Rattle.stripe_stamps.proofs.StampSteps.{stamps_keep_contents}
use Rattle.stripe_stamps.proofs.laws_of_stamps.stamps_keep_contents.Goals as goal

pub returns : goal.returns
returns c = stamps_keep_contents
