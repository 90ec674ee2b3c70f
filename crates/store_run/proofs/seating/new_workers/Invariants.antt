use Rattle.std.proofs.Common.{◌≡◌, ◌≤◌, All, [], length, vec_capacity}
use Rattle.store_run.proofs.seating.new_workers.Given as goal

abbrev pub invariant-loop-made : goal.invariant-loop-made
invariant-loop-made l = record {
  made : length l.workers.items ≡ l._made;
  none : All (λ worker. worker.actors.items ≡ []) l.workers.items;
  room : l.count ≤ vec_capacity l.workers;
}
