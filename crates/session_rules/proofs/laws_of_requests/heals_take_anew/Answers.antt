use Rattle.session_rules.proofs.HealsTaken.{heals_take_anew as law}
use Rattle.session_rules.proofs.laws_of_requests.heals_take_anew.Goals as goal

pub returns : goal.returns
returns c = law
