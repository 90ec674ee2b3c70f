use Rattle.std.proofs.Common.{◌≡◌, ℕ, ◌+◌, ◌<◌, ◌++◌, ◌∷◌, [], List, length, get_or, slice_get, Some, ap, sym, subst, ◌∙◌, arith}
use Rattle.std.proofs.lemmas.List.{length-append}
use Rattle.call_steps.specs.declared.caller_calls.CallerCalls.{CallerCalls}
use Rattle.actors.specs.Callers.{CallerOf}
use Rattle.store_world.specs.Ending.{IsCallsOf}
use Rattle.store_world.proofs.Seating.{next_seats, first_left, each_more}
use Rattle.store_world.proofs.last_world.calls_of.Goals as goal

pub loop-made-preserved : goal.loop-made-preserved
loop-made-preserved c =
    let all : List CallerOf = c.args.callers.items in
    let less : c.loop-made._made < length all = omega (arith, c.loop-made-test.true) in
    let there : slice_get all c.loop-made._made ≡ Some c.remove-caller.result =
    first_left all c.loop-made._made c.remove-caller.result less
    (c.remove-caller.ensures.value ∙ ap (λ (l : List CallerOf). get_or l 0 c.remove-caller.result) c.loop-made.invariant.rest) in
    let sum : length (c.loop-made.calls.items ++ c.into_calls.result ∷ []) ≡ length c.loop-made.calls.items + 1 = length-append c.loop-made.calls.items (c.into_calls.result ∷ []) in
    let one : IsCallsOf all c.loop-made._made c.into_calls.result =
    record { caller = c.remove-caller.result; there = there; same = c.into_calls.ensures.calls; served = c.into_calls.ensures.served } in
    record {
      rest = next_seats c.remove-caller.new.self.items c.loop-made.callers.items all c.loop-made._made c.remove-caller.ensures.items c.loop-made.invariant.rest;
      count = ap length c.push_reserved.ensures.items ∙ sum ∙ ap (λ (n : ℕ). n + 1) c.loop-made.invariant.count;
      each =
          subst (λ (l : List CallerCalls). (i : ℕ) (x : CallerCalls) → slice_get l i ≡ Some x → IsCallsOf all i x) (sym c.push_reserved.ensures.items)
          (each_more (IsCallsOf all) c.loop-made.calls.items c.into_calls.result c.loop-made.invariant.each
          (subst (λ (n : ℕ). IsCallsOf all n c.into_calls.result) (sym c.loop-made.invariant.count) one));
      room = omega (arith, c.push_reserved.ensures.capacity, c.loop-made.invariant.room);
    }
