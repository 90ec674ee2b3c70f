use Rattle.std.proofs.Common.{◌≡◌, ◌+◌, vec_len}
use Rattle.store_run.proofs.locked_places.leave_seats.Given as goal

abbrev pub invariant-loop-left : goal.invariant-loop-left
invariant-loop-left l = vec_len l.seats + l._left ≡ vec_len l.fn.seats
