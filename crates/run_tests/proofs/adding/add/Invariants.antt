use Rattle.std.proofs.Common.{None}
use Rattle.run_tests.proofs.adding.add.Given as goal

abbrev pub ghost-give_line : goal.ghost-give_line
ghost-give_line g a = (a.line.turn, a.line.value)

abbrev pub ghost-give : goal.ghost-give
ghost-give g a = None
