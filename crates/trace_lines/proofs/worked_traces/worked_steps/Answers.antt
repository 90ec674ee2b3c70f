use Rattle.std.proofs.Common.{refl}
use Rattle.std.specs.Fmt.{digits}
use Rattle.trace_lines.proofs.worked_traces.worked_steps.Goals as goal

pub returns-clause-a_put : goal.returns-clause-a_put
unfolding digits
returns-clause-a_put c = refl

pub returns-clause-a_race : goal.returns-clause-a_race
unfolding digits
returns-clause-a_race c = refl
