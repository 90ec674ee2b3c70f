use Rattle.session_rules.proofs.Runs.{beginnings_are_between as law}
use Rattle.session_rules.proofs.laws_of_requests.beginnings_are_between.Goals as goal

pub returns : goal.returns
returns c = law
