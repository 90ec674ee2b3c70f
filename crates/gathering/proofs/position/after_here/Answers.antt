use Rattle.std.proofs.Common.{length}
use Rattle.gathering.proofs.position.after_here.Goals as goal

pub returns-in-Look-clause-placed : goal.returns-in-Look-clause-placed
returns-in-Look-clause-placed c = c.on_look.ensures.placed (length c.args.first.now)
