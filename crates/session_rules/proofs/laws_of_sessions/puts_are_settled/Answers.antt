use Rattle.session_rules.proofs.PutSeen.{puts_are_settled as law}
use Rattle.session_rules.proofs.laws_of_sessions.puts_are_settled.Goals as goal

pub returns : goal.returns
returns c = law
