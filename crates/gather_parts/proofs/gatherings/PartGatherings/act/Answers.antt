use Rattle.std.proofs.Common.{◌∙◌}
use Rattle.gather_parts.proofs.Handing.{state_acts}
use Rattle.gather_parts.proofs.gatherings.PartGatherings.act.Goals as goal

pub returns-clause-call : goal.returns-clause-call
returns-clause-call c = λ call after stands due so. c.act_then.ensures ∙ state_acts call c.args.self.now after c.args.follows stands due so
