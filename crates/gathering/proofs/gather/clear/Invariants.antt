use Rattle.gathering.proofs.Shelves.{NoneBelow}
use Rattle.gathering.proofs.gather.clear.Given as goal

abbrev pub invariant-loop-i : goal.invariant-loop-i
invariant-loop-i l = NoneBelow l.i l.helpers
