use Rattle.run_laws.proofs.Acts.{acts_resume}
use Rattle.run_laws.proofs.States.{states_resume, calls_resume}
use Rattle.run_laws.proofs.laws_of_resuming.calls_resume.Goals as goal

pub returns-clause-acts : goal.returns-clause-acts
returns-clause-acts c = acts_resume

pub returns-clause-states : goal.returns-clause-states
returns-clause-states c = states_resume

pub returns-clause-machines : goal.returns-clause-machines
returns-clause-machines c = calls_resume
