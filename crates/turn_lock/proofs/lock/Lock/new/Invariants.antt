use Rattle.std.proofs.Common.{◌≡◌, ℕ, ◌≤◌, [], IfSome, slice_get, vec_len, vec_capacity}
use Rattle.turn_lock.specs.Steps.{maker_view}
use Rattle.turn_lock.specs.TurnState.{new_turn}
use Rattle.turn_lock.proofs.lock.Lock.new.Given as goal

abbrev pub invariant-loop-number : goal.invariant-loop-number
invariant-loop-number g l = record {
  own : l.seat.table_id ≡ l.lock;
  view : l.seat.me ≡ (maker_view (g.T.Historied.fixed_part l.fn.value) l.number, []);
  count : vec_len l.all ≡ l.number;
  room : l.turns ≤ vec_capacity l.all;
  made : (k : ℕ) → IfSome (slice_get l.all.items k) (λ t. t ≡ new_turn l.lock (g.T.Historied.fixed_part l.fn.value) k);
}
