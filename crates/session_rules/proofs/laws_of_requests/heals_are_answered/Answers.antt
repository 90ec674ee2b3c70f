use Rattle.session_rules.proofs.HealsAnswered.{heals_are_answered as law}
use Rattle.session_rules.proofs.laws_of_requests.heals_are_answered.Goals as goal

pub returns : goal.returns
returns c = law
