use Rattle.session_rules.proofs.Runs.{runs_are_served as law}
use Rattle.session_rules.proofs.laws_of_requests.runs_are_served.Goals as goal

pub returns : goal.returns
returns c = law
