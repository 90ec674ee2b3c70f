use Rattle.stripe_stamps.proofs.StampSteps.{stamps_hold_the_bytes_of_the_map}
use Rattle.stripe_stamps.proofs.laws_of_stamps.stamps_hold_the_bytes_of_the_map.Goals as goal

pub returns : goal.returns
returns c = stamps_hold_the_bytes_of_the_map
