use Rattle.run_laws.proofs.Stays.{contents_stay}
use Rattle.run_laws.proofs.laws_of_contents.contents_stay.Goals as goal

pub returns : goal.returns
returns c = contents_stay
