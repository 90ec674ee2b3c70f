use Rattle.std.proofs.Common.{sym, ap}
use Rattle.store_core.specs.Act.{Act}
use Rattle.call_steps.specs.CallOf.{act_of}
use Rattle.call_machine.specs.Kinds.{machine_of}
use Rattle.actors.specs.Owing.{left_by}
use Rattle.actors.proofs.Ended.{caller_after}
use Rattle.actors.proofs.Serving.{served_after}
use Rattle.actors.proofs.after_step.over.Goals as goal

pub returns-clause-actor : goal.returns-clause-actor
returns-clause-actor c a is =
    caller_after c.args.call.call a c.args.ended.now.items c.push_reserved.new.self.items (record { outcome = c.finish-seat.result.1; takes = c.finish-seat.result.2 }) c.finish-seat.result.0 _
    c.finish-seat.ensures.outcome c.finish-seat.ensures.takes c.requires.servers c.push_reserved.ensures.items c.finish-seat.ensures.seat is

pub returns-clause-served : goal.returns-clause-served
returns-clause-served c =
    served_after (act_of c.args.call.call) (record { outcome = c.finish-seat.result.1; takes = c.finish-seat.result.2 }) (machine_of c.args.call.asked) c.args.call.owed
    c.args.ended.now.items c.push_reserved.new.self.items c.finish-seat.ensures.outcome c.push_reserved.ensures.items c.finish-seat.ensures.served

pub returns-clause-left : goal.returns-clause-left
returns-clause-left c = ap (λ (act : Act). left_by act c.args.call) (sym c.finish-seat.ensures.outcome)
