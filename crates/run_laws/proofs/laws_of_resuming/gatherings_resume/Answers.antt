use Rattle.run_laws.proofs.ResumeGatherings.{gatherings_resume}
use Rattle.run_laws.proofs.laws_of_resuming.gatherings_resume.Goals as goal

pub returns : goal.returns
returns c = gatherings_resume
