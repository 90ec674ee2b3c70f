use Rattle.std.proofs.Common.{◌≡◌}
use Rattle.turn_lock.specs.Steps.{IsSameSeat}
use Rattle.turn_lock.proofs.lock.Lock.seize.Given as goal

abbrev pub invariant-loop : goal.invariant-loop
invariant-loop g l = IsSameSeat l.initial.seat l.seat × (l.seat.me ≡ l.initial.seat.me)
