use Rattle.world_lines.proofs.SoFar.{unfinished_shown, done_shown}
use Rattle.world_laws.specs.Served.{bytes_of}
use Rattle.world_lines.proofs.lines_of_history.shown_done.Goals as goal

pub returns-then-is_answered : goal.returns-then-is_answered
returns-then-is_answered c = done_shown _ (bytes_of c.args.clients.now c.args.actor c.args.number) c.if-is_answered.ensures

pub returns-else-is_answered : goal.returns-else-is_answered
returns-else-is_answered c = unfinished_shown _ (bytes_of c.args.clients.now c.args.actor c.args.number) c.if-is_answered.ensures
