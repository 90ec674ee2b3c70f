use Rattle.store_tests.specs.Walk.{IsWalk, AreOf}
use Rattle.store_tests.proofs.stray_tests.place.Given as goal

abbrev pub invariant-loop-turn : goal.invariant-loop-turn
invariant-loop-turn g l = record {
  walk : IsWalk l.fn.book l.directory l.put.call;
  servers : AreOf l.fn.book l.servers;
}
