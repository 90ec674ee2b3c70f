use Rattle.store_tests.specs.Walk.{AreOf}
use Rattle.store_tests.proofs.walk.servers.Given as goal

abbrev pub invariant-loop-number : goal.invariant-loop-number
invariant-loop-number l = AreOf l.book l.servers.items
