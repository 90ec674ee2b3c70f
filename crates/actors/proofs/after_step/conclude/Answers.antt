use Rattle.actors.proofs.Concluding.{concluded_on}
use Rattle.actors.proofs.after_step.conclude.Goals as goal

pub returns-else-is_over-clause-concluded : goal.returns-else-is_over-clause-concluded
returns-else-is_over-clause-concluded c m was =
    concluded_on m c.args.steps.now c.args.ended.now.items c.args.call.now c.args.seat.now was c.requires.none (c.is_over.ensures.goes c.if-is_over.false)
