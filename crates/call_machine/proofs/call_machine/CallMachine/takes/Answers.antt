use Rattle.std.proofs.Common.{◌∙◌, ap, Bor, Option}
use Rattle.std.specs.Option.{option_map}
use Rattle.read_ledger.specs.declared.takes.Takes.{Takes}
use Rattle.call_machine.proofs.Machines.{took_nothing}
use Rattle.call_machine.proofs.call_machine.CallMachine.takes.Goals as goal

pub returns-in-Put-clause-takes : goal.returns-in-Put-clause-takes
returns-in-Put-clause-takes c =
    ap (λ (o : Option (Bor Takes)). option_map (λ takes. takes.now) o) c.takes-in-Put.ensures.none
    ∙ took_nothing c.self.inside c.args.self.now c.in-Put.put _ c.self.view_is c.in-Put.is c.takes-in-Put.ensures.nothing
