use Rattle.aloof_recovery.specs.Recoveries.{ArePut}
use Rattle.aloof_recovery.proofs.recovery.Recovery.put_all.Given as goal

abbrev pub invariant-loop-c : goal.invariant-loop-c
invariant-loop-c l = ArePut l.self.g l.self.missing.now l.c l.fn.chunks l.chunks
