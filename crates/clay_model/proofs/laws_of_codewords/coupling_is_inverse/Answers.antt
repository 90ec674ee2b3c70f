use Rattle.clay_model.proofs.PairLaws.{AreCoupled-uncoupled, AreUncoupled-coupled, from_partner, crossed}
use Rattle.clay_model.proofs.laws_of_codewords.coupling_is_inverse.Goals as goal

pub returns-clause-coupled : goal.returns-clause-coupled
returns-clause-coupled c = AreCoupled-uncoupled

pub returns-clause-uncoupled : goal.returns-clause-uncoupled
returns-clause-uncoupled c = AreUncoupled-coupled

pub returns-clause-from_partner : goal.returns-clause-from_partner
returns-clause-from_partner c = from_partner

pub returns-clause-crossed : goal.returns-clause-crossed
returns-clause-crossed c = crossed
