use Rattle.call_machine.proofs.Machines.{took_nothing}
use Rattle.call_machine.proofs.call_machine.CallMachine.abandon.Goals as goal

pub returns-in-Put : goal.returns-in-Put
returns-in-Put c = took_nothing c.self.inside c.args.self c.in-Put.put _ c.self.view_is c.in-Put.is c.takes.ensures.nothing
