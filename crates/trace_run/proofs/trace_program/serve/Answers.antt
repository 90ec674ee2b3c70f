use Rattle.std.proofs.Common.{◌∙◌}
use Rattle.trace_run.proofs.trace_program.serve.Goals as goal

pub returns : goal.returns
returns g c = record { exit = (c.traced_or_usage-status.result, c.from.ensures ∙ c.number.ensures, c.traced_or_usage-status.ensures) }
