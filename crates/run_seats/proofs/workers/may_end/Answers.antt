use Rattle.std.proofs.Common.{sym, ◌∙◌}
use Rattle.run_seats.proofs.workers.may_end.Goals as goal

pub returns-then-not-has_sweeper : goal.returns-then-not-has_sweeper
returns-then-not-has_sweeper c = λ script code over. sym (c.some_has_step.ensures script code) ∙ c.if-some_has_step.false
