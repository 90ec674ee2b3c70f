use Rattle.std.proofs.Common.{Some}
use Rattle.run_seats.proofs.directory_steps.give_step.Given as goal

abbrev pub ghost-give_by : goal.ghost-give_by
ghost-give_by g a = Some g.entry
