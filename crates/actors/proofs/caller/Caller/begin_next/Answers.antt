use Rattle.std.proofs.Common.{◌≡◌, ℕ, Option, None, sym, ap, subst, ◌∙◌}
use Rattle.call_machine.specs.Calls.{MachineOf}
use Rattle.actors.specs.Callers.{CallerOf}
use Rattle.actors.specs.Beginning.{HasBegun, MayTake}
use Rattle.actors.specs.Inside.{caller_by, part_by}
use Rattle.actors.proofs.Begins.{begins_here, may_take}
use Rattle.actors.proofs.caller.Caller.begin_next.Goals as goal

pub next_call-call-requires : goal.next_call-call-requires
next_call-call-requires c =
    let a : _ = c.self.inside in
    let none : a.call ≡ None = ap (λ (o : CallerOf). o.work) c.self.view_is ∙ c.requires.none in
    record {
      may =
          may_take (part_by a.part) a.opening a.tries c.args.place c.len-number.result a.ended.items a.seat c.take-seat.result a.steps c.args.self.now
          (sym c.self.view_is ∙ ap (λ (o : Option MachineOf). caller_by (part_by a.part) a.opening a.tries a.ended.items a.seat o a.steps) none)
          c.take-seat.ensures.taken c.requires.may c.self.invariant.tries c.self.invariant.below (c.len-number.ensures ∙ a.ended.ok.0);
    }

pub returns : goal.returns
returns c =
    let a : _ = c.self.inside in
    let none : a.call ≡ None = ap (λ (o : CallerOf). o.work) c.self.view_is ∙ c.requires.none in
    let view : c.args.self.now ≡ caller_by (part_by a.part) a.opening a.tries a.ended.items a.seat None a.steps =
    sym c.self.view_is ∙ ap (λ (o : Option MachineOf). caller_by (part_by a.part) a.opening a.tries a.ended.items a.seat o a.steps) none in
    let number : _ = c.len-number.ensures ∙ a.ended.ok.0 in
    record {
      begun =
          begins_here (part_by a.part) a.opening a.tries a.ended.items c.args.self.now a.seat c.take-seat.new.place c.put.new.place c.args.place a.steps c.take-seat.result c.next_call-call.result view
          c.take-seat.ensures.taken c.take-seat.ensures.gone c.put.ensures
          (subst (λ (n : ℕ). MayTake a.opening a.tries c.args.place n (part_by a.part) c.take-seat.result) number
          (may_take (part_by a.part) a.opening a.tries c.args.place c.len-number.result a.ended.items a.seat c.take-seat.result a.steps c.args.self.now view c.take-seat.ensures.taken c.requires.may c.self.invariant.tries
          c.self.invariant.below number))
          (subst (λ (n : ℕ). HasBegun a.opening a.tries n (part_by a.part) c.take-seat.result c.next_call-call.result) number c.next_call-call.ensures);
    }
