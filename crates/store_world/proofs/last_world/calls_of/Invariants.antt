use Rattle.std.proofs.Common.{◌≡◌, ◌≤◌, ℕ, length, drop, slice_get, Some, vec_capacity}
use Rattle.call_steps.specs.declared.caller_calls.CallerCalls.{CallerCalls}
use Rattle.store_world.specs.Ending.{IsCallsOf}
use Rattle.store_world.proofs.last_world.calls_of.Given as goal

abbrev pub invariant-loop-made : goal.invariant-loop-made
invariant-loop-made l = record {
  rest : l.callers.items ≡ drop l._made l.fn.callers.items;
  count : length l.calls.items ≡ l._made;
  each : (i : ℕ) (calls : CallerCalls) → slice_get l.calls.items i ≡ Some calls → IsCallsOf l.fn.callers.items i calls;
  room : length l.fn.callers.items ≤ vec_capacity l.calls;
}
