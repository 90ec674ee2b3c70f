use Rattle.std.proofs.Common.{ℕ, ◌≤◌, length, sym, ap, subst, ◌∙◌}
use Rattle.call_machine.specs.Calls.{MachineOf}
use Rattle.actors.specs.Callers.{CallerOf, calls_of}
use Rattle.actors.specs.Inside.{caller_by, part_by}
use Rattle.actors.specs.Steps.{MadeAtServer, MakesStep}
use Rattle.actors.proofs.Stepping.{counts_servers, in_work_at, known_at, knows_after, makes_by, same_here, stays_in_work}
use Rattle.actors.proofs.caller.Caller.on_server.Goals as goal

pub conclude-requires-clause-servers : goal.conclude-requires-clause-servers
conclude-requires-clause-servers c =
    let a : _ = c.self.inside in
    let m : _ = c.step_call_at_server-made.ensures.made in
    counts_servers a.opening (part_by a.part) (length a.ended.items) a.call c.step_call_at_server-made.new.call m.call c.step_call_at_server-made.result.0.value c.self.invariant.kept m.was m.is (same_here m.call c.step_call_at_server-made.result.0.value _ _ m.made)

pub invariant_of-self : goal.invariant_of-self
invariant_of-self c =
    let a : _ = c.self.inside in
    let m : _ = c.step_call_at_server-made.ensures.made in
    let done : _ = c.conclude.ensures.concluded c.step_call_at_server-made.result.0.value m.is in
    let work : _ = in_work_at a.opening (part_by a.part) (length a.ended.items) a.call m.call c.self.invariant.kept m.was in
    let same : _ = same_here m.call c.step_call_at_server-made.result.0.value _ _ m.made in
    record {
      either = done.either;
      kept =
          stays_in_work (part_by a.part) a.opening a.tries a.ended.items c.conclude.new.ended.items a.seat c.conclude.new.seat a.steps c.conclude.new.steps c.step_call_at_server-made.result.0.value c.conclude.new.call (same.book ∙ work.its) done
          m.call work same m.made.asked;
      few = c.self.invariant.few;
      tries = c.self.invariant.tries;
      below = c.self.invariant.below;
      room = subst (λ (n : ℕ). calls_of (part_by a.part) ≤ n) (sym c.conclude.ensures.room) c.self.invariant.room;
    }

pub returns-clause-step : goal.returns-clause-step
returns-clause-step c =
    let a : _ = c.self.inside in
    let m : _ = c.step_call_at_server-made.ensures.made in
    let done : _ = c.conclude.ensures.concluded c.step_call_at_server-made.result.0.value m.is in
    let work : _ = in_work_at a.opening (part_by a.part) (length a.ended.items) a.call m.call c.self.invariant.kept m.was in
    let same : _ = same_here m.call c.step_call_at_server-made.result.0.value _ _ m.made in
    let made : MachineOf → MachineOf → Type 0 = λ x y. MadeAtServer x y c.args.server.now c.step_call_at_server-made.new.server in
    subst
    (λ (before : CallerOf). MakesStep made c.step_call_at_server-made.result.0.value before
    (caller_by (part_by a.part) a.opening a.tries c.conclude.new.ended.items c.conclude.new.seat c.conclude.new.call c.conclude.new.steps))
    c.self.view_is
    (makes_by (part_by a.part) a.opening a.tries a.ended.items c.conclude.new.ended.items a.seat c.conclude.new.seat a.steps c.conclude.new.steps c.step_call_at_server-made.result.0.value c.conclude.new.call (same.book ∙ work.its) done
    made a.call m.call m.was m.made)

pub returns-clause-knows : goal.returns-clause-knows
returns-clause-knows c d knows =
    let m : _ = c.step_call_at_server-made.ensures.made in
    let done : _ = c.conclude.ensures.concluded c.step_call_at_server-made.result.0.value m.is in
    knows_after d c.step_call_at_server-made.result.0.value c.conclude.new.call (m.knows d (known_at d c.self.inside.call m.call c.args.self.now (ap (λ (a : CallerOf). a.work) c.self.view_is) m.was knows)) done.work
