use Rattle.std.proofs.Common.{◌≡◌, ◌+◌, vec_len}
use Rattle.store_run.proofs.left_workers.leave_actors.Given as goal

abbrev pub invariant-loop-left : goal.invariant-loop-left
invariant-loop-left l = vec_len l.actors + l._left ≡ vec_len l.fn.actors
