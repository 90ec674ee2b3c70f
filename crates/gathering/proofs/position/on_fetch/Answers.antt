use Rattle.std.proofs.Common.{length}
use Rattle.gathering.proofs.position.on_fetch.Goals as goal

pub returns-clause-placed : goal.returns-clause-placed
returns-clause-placed c = c.on_look.ensures.placed (length c.args.first.now)
