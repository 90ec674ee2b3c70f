use Rattle.session_rules.proofs.Runs.{more_calls_stay_between as law}
use Rattle.session_rules.proofs.laws_of_requests.more_calls_stay_between.Goals as goal

pub returns : goal.returns
returns c = law
