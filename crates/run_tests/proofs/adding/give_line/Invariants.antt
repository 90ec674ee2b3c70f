use Rattle.std.proofs.Common.{Some}
use Rattle.run_tests.proofs.adding.give_line.Given as goal

abbrev pub ghost-give_by : goal.ghost-give_by
ghost-give_by g a = Some g.entry
