use Rattle.gathering.proofs.Taking.{takes_follow}
use Rattle.gathering.proofs.laws_of_gatherings.takes_follow_the_definitions.Goals as goal

pub returns : goal.returns
returns c = takes_follow
