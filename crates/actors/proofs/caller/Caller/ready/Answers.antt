use Rattle.std.proofs.Common.{sym, ap, subst}
use Rattle.actors.specs.Callers.{CallerOf}
use Rattle.actors.specs.Steps.{BeginsCall}
use Rattle.actors.specs.Inside.{part_by}
use Rattle.actors.proofs.Stepping.{coded_goes, ready_by, ready_knows}
use Rattle.actors.proofs.caller.Caller.ready.Goals as goal

pub on_coder-requires-clause-goes : goal.on_coder-requires-clause-goes
on_coder-requires-clause-goes g c κs within = coded_goes c.args.self.now c.begin.new.self c.self.inside.call c.begin.ensures.begun (ap (λ (x : CallerOf). x.work) (sym c.self.view_is))

pub returns-clause-ready : goal.returns-clause-ready
returns-clause-ready g c =
    let a : _ = c.self.inside in
    ready_by (part_by a.part) a.opening a.tries a.ended.items a.seat a.steps c.args.self.now c.on_coder.result a.call c.on_coder.new.call
    (subst (λ (begun : CallerOf). BeginsCall c.args.self.now begun) (sym c.self.view_is) c.begin.ensures.begun) c.on_coder.ensures

pub returns-clause-knows : goal.returns-clause-knows
returns-clause-knows g c d knows =
    let a : _ = c.self.inside in
    ready_knows (part_by a.part) a.opening a.tries a.ended.items a.seat a.steps c.args.self.now c.on_coder.result a.call c.on_coder.new.call d
    (subst (λ (begun : CallerOf). BeginsCall c.args.self.now begun) (sym c.self.view_is) c.begin.ensures.begun) c.on_coder.ensures knows
