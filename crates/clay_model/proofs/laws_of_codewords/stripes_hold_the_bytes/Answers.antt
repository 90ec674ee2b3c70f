use Rattle.clay_model.proofs.Stripes.{stripes_of-lengths, stripes_of-few, concat-stripes_of}
use Rattle.clay_model.proofs.laws_of_codewords.stripes_hold_the_bytes.Goals as goal

pub returns-clause-lengths : goal.returns-clause-lengths
returns-clause-lengths c = stripes_of-lengths

pub returns-clause-few : goal.returns-clause-few
returns-clause-few c = stripes_of-few

pub returns-clause-joined : goal.returns-clause-joined
returns-clause-joined c = concat-stripes_of
