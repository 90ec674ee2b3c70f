use Rattle.std.proofs.Common.{◌≤◌, length, arith}
use Rattle.std.proofs.lemmas.List.{length-take}
use Rattle.gathering.proofs.position.after_given.Goals as goal

pub returns-in-Repair-clause-placed : goal.returns-in-Repair-clause-placed
returns-in-Repair-clause-placed c = c.on_repair.ensures.placed (length c.args.first.now)

pub returns-in-Whole-clause-placed : goal.returns-in-Whole-clause-placed
returns-in-Whole-clause-placed c =
    c.on_whole.ensures.placed (length c.args.first.now) (length c.args.gone.now) (omega (arith, length-take c.in-Whole.counted c.args.gone.now))
