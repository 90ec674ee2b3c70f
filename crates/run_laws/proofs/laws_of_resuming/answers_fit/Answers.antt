use Rattle.run_laws.proofs.Fits.{answers_fit}
use Rattle.run_laws.proofs.laws_of_resuming.answers_fit.Goals as goal

pub returns : goal.returns
returns c = answers_fit
