use Rattle.std.proofs.Common.{◌≡◌, false, All}
use Rattle.run_tests.specs.Workers.{IsReady}
use Rattle.run_tests.proofs.working.collect.Given as goal

abbrev pub invariant-loop-worker : goal.invariant-loop-worker
invariant-loop-worker g l = record {
  own : l.turn.lock ≡ l.fn.lock;
  free : l.turn.holds ≡ false;
  ready : All (IsReady l.fn.lock) l.workers.items;
}

abbrev pub decreases-loop-worker : goal.decreases-loop-worker
decreases-loop-worker g l = goal.left-loop-worker g l
