use Rattle.std.proofs.Common.{◌≡◌, ℕ, ◌+◌, ◌≤◌, All, IfSome, slice_get, vec_len, vec_capacity}
use Rattle.turn_lock.specs.TurnState.{new_turn}
use Rattle.run_tests.specs.Workers.{IsReady}
use Rattle.run_tests.proofs.working.hire.Given as goal

abbrev pub invariant-loop-turn : goal.invariant-loop-turn
invariant-loop-turn l = record {
  count : vec_len l.workers + vec_len l.turns ≡ l.fn.count;
  room : l.fn.count ≤ vec_capacity l.workers;
  turns : (k : ℕ) → IfSome (slice_get l.turns.items k) (λ t. t ≡ new_turn l.lock 7 k);
  ready : All (IsReady l.lock) l.workers.items;
}

abbrev pub decreases-loop-turn : goal.decreases-loop-turn
decreases-loop-turn l = goal.left-loop-turn l
