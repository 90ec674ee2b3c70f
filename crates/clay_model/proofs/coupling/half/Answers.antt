use Rattle.clay_model.proofs.PairLaws.{half_even, half_odd}
use Rattle.clay_model.proofs.coupling.half.Goals as goal

pub returns-then-a-eq0 : goal.returns-then-a-eq0
returns-then-a-eq0 c = half_even c.args.a c.ranges.a.fits c.if-a-eq0.true

pub returns-else-a-eq0 : goal.returns-else-a-eq0
returns-else-a-eq0 c = half_odd c.args.a c.ranges.a.fits c.if-a-eq0.false
