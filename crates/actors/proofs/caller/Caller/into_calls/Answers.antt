use Rattle.std.proofs.Common.{refl}
use Rattle.actors.specs.Inside.{part_by}
use Rattle.actors.proofs.Ended.{calls_in_work}
use Rattle.actors.proofs.caller.Caller.into_calls.Goals as goal

pub returns-in-Some-call-clause-calls : goal.returns-in-Some-call-clause-calls
returns-in-Some-call-clause-calls c =
    let a : _ = c.self.inside in
    calls_in_work (part_by a.part) a.opening a.tries a.ended.items a.seat c.args.self a.call a.steps c.in-Some-call.call
    (record { ended = a.ended; steps = a.steps; takes = c.abandon.result })
    c.self.view_is c.in-Some-call.is c.self.invariant.kept refl refl c.abandon.ensures
