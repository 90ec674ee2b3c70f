use Rattle.std.proofs.Common.{arith}
use Rattle.hist_check.proofs.Rules.{answered_few}
use Rattle.hist_check.proofs.judging.check.Goals as goal

pub find_fault-requires : goal.find_fault-requires
find_fault-requires c = record { few = omega (arith, answered_few c.args.transcript.now, c.requires.few) }
