use Rattle.lost_read.specs.MissingReadings.{HoldsRunIn}
use Rattle.lost_read.proofs.missing_reading.Reading.write_run.Given as goal

abbrev pub invariant-loop-i : goal.invariant-loop-i
invariant-loop-i l = HoldsRunIn l.self l.i l.out
