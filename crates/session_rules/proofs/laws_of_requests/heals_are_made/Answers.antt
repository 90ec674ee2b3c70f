use Rattle.session_rules.proofs.HealsAnswered.{heals_are_made as law}
use Rattle.session_rules.proofs.laws_of_requests.heals_are_made.Goals as goal

pub returns : goal.returns
returns c = law
