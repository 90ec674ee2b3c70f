use Rattle.std.proofs.Common.{◌≡◌, ℕ, ◌≤◌, length, Option, Some, IfSome, sym, ap, subst, ◌∙◌}
use Rattle.store_core.specs.Agreement.{Agrees}
use Rattle.call_machine.specs.Calls.{ArePadded, KnowsOldOf, MachineOf}
use Rattle.call_machine.specs.Kinds.{machine_of, IfPatches}
use Rattle.world_laws.specs.Tokens.{token_of}
use Rattle.actors.specs.Callers.{CallerOf, calls_of}
use Rattle.actors.specs.Inside.{caller_by, doing_by, part_by}
use Rattle.actors.specs.Steps.{MadeAtDirectory, MakesStep}
use Rattle.actors.proofs.Stepping.{counts_servers, in_work_at, knows_after, makes_by, same_there, stays_in_work}
use Rattle.actors.proofs.caller.Caller.on_directory.Goals as goal

pub step_call_at_directory-made-requires-clause-goes : goal.step_call_at_directory-made-requires-clause-goes
step_call_at_directory-made-requires-clause-goes c =
    let a : _ = c.self.inside in
    let need : _ = c.requires.need in
    let was : a.call ≡ Some need.call = ap (λ (x : CallerOf). x.work) c.self.view_is ∙ need.was in
    let work : _ = in_work_at a.opening (part_by a.part) (length a.ended.items) a.call need.call c.self.invariant.kept was in
    let token : token_of c.args.self.now.actor.doing ≡ need.call.call.token =
    sym (ap (λ (x : CallerOf). token_of x.actor.doing) c.self.view_is) ∙ ap (λ (o : Option MachineOf). token_of (doing_by a.seat o a.steps)) was in
    record {
      call = need.call;
      was = was;
      needs = need.is;
      agrees = subst (Agrees c.args.directory.now.core) token c.requires.agrees;
      its = c.requires.its ∙ sym (ap (λ (x : CallerOf). x.book) c.self.view_is) ∙ sym work.its;
      padded = subst (λ (o : Option MachineOf). IfSome o (λ (m : MachineOf). IfPatches (machine_of m.asked) (ArePadded c.args.directory.now))) need.was c.requires.padded;
      knows = subst (λ (o : Option MachineOf). IfSome o (KnowsOldOf c.args.directory.now)) need.was c.requires.knows;
    }

pub step_call_at_directory-made-requires-clause-book : goal.step_call_at_directory-made-requires-clause-book
step_call_at_directory-made-requires-clause-book c =
    let a : _ = c.self.inside in
    let need : _ = c.requires.need in
    let was : a.call ≡ Some need.call = ap (λ (x : CallerOf). x.work) c.self.view_is ∙ need.was in
    let work : _ = in_work_at a.opening (part_by a.part) (length a.ended.items) a.call need.call c.self.invariant.kept was in
    subst (λ (o : Option MachineOf). IfSome o (λ (m : MachineOf). c.args.book.now ≡ m.call.book)) (sym was) (c.requires.book ∙ sym (ap (λ (x : CallerOf). x.book) c.self.view_is) ∙ sym work.its)

pub conclude-requires-clause-servers : goal.conclude-requires-clause-servers
conclude-requires-clause-servers c =
    let a : _ = c.self.inside in
    let m : _ = c.step_call_at_directory-made.ensures.made in
    counts_servers a.opening (part_by a.part) (length a.ended.items) a.call c.step_call_at_directory-made.new.call m.call c.step_call_at_directory-made.result.0.value c.self.invariant.kept m.was m.is
    (same_there m.call c.step_call_at_directory-made.result.0.value _ _ m.made)

pub invariant_of-self : goal.invariant_of-self
invariant_of-self c =
    let a : _ = c.self.inside in
    let m : _ = c.step_call_at_directory-made.ensures.made in
    let done : _ = c.conclude.ensures.concluded c.step_call_at_directory-made.result.0.value m.is in
    let work : _ = in_work_at a.opening (part_by a.part) (length a.ended.items) a.call m.call c.self.invariant.kept m.was in
    let same : _ = same_there m.call c.step_call_at_directory-made.result.0.value _ _ m.made in
    record {
      either = done.either;
      kept =
          stays_in_work (part_by a.part) a.opening a.tries a.ended.items c.conclude.new.ended.items a.seat c.conclude.new.seat a.steps c.conclude.new.steps c.step_call_at_directory-made.result.0.value c.conclude.new.call (same.book ∙ work.its) done
          m.call work same m.made.asked;
      few = c.self.invariant.few;
      tries = c.self.invariant.tries;
      below = c.self.invariant.below;
      room = subst (λ (n : ℕ). calls_of (part_by a.part) ≤ n) (sym c.conclude.ensures.room) c.self.invariant.room;
    }

pub returns-clause-step : goal.returns-clause-step
returns-clause-step c =
    let a : _ = c.self.inside in
    let m : _ = c.step_call_at_directory-made.ensures.made in
    let done : _ = c.conclude.ensures.concluded c.step_call_at_directory-made.result.0.value m.is in
    let work : _ = in_work_at a.opening (part_by a.part) (length a.ended.items) a.call m.call c.self.invariant.kept m.was in
    let same : _ = same_there m.call c.step_call_at_directory-made.result.0.value _ _ m.made in
    let made : MachineOf → MachineOf → Type 0 = λ x y. MadeAtDirectory x y c.args.directory.now c.step_call_at_directory-made.new.directory in
    subst
    (λ (before : CallerOf). MakesStep made c.step_call_at_directory-made.result.0.value before
    (caller_by (part_by a.part) a.opening a.tries c.conclude.new.ended.items c.conclude.new.seat c.conclude.new.call c.conclude.new.steps))
    c.self.view_is
    (makes_by (part_by a.part) a.opening a.tries a.ended.items c.conclude.new.ended.items a.seat c.conclude.new.seat a.steps c.conclude.new.steps c.step_call_at_directory-made.result.0.value c.conclude.new.call (same.book ∙ work.its) done
    made a.call m.call m.was m.made)

pub returns-clause-knows : goal.returns-clause-knows
returns-clause-knows c =
    let m : _ = c.step_call_at_directory-made.ensures.made in
    let done : _ = c.conclude.ensures.concluded c.step_call_at_directory-made.result.0.value m.is in
    knows_after c.step_call_at_directory-made.new.directory c.step_call_at_directory-made.result.0.value c.conclude.new.call m.knows done.work
