use Rattle.lost_read.specs.Readings.{HoldsSumIn}
use Rattle.lost_read.proofs.reading.Reading.solve.Given as goal

abbrev pub invariant-loop-other : goal.invariant-loop-other
invariant-loop-other l = HoldsSumIn l.self l.layer l.place l.other l.sum
