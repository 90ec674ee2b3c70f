use Rattle.code_laws.proofs.Cut.{joined_front, joined_enough}
use Rattle.clay_encode.proofs.stripes.stripes_are_joined.Goals as goal

pub returns-clause-enough : goal.returns-clause-enough
returns-clause-enough c = joined_enough

pub returns-clause-joined : goal.returns-clause-joined
returns-clause-joined c = joined_front
