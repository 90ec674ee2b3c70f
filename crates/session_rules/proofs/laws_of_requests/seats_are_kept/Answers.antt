use Rattle.session_rules.proofs.RunKept.{seats_are_kept as law}
use Rattle.session_rules.proofs.laws_of_requests.seats_are_kept.Goals as goal

pub returns : goal.returns
returns c = law
