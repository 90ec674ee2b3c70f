use Rattle.std.proofs.Common.{◌≡◌, ◌+◌}
use Rattle.run_tests.specs.Workers.{IsReady, line_count}
use Rattle.run_tests.proofs.working.work.Given as goal

abbrev pub invariant-loop-value : goal.invariant-loop-value
invariant-loop-value g l = record {
  ready : IsReady l.lock l.worker;
  number : l.worker.number ≡ l.initial.worker.number;
  left : l.worker.left + l.value ≡ l.initial.worker.left;
  lines : line_count l.worker ≡ line_count l.initial.worker + l.value;
}
