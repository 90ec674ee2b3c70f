use Rattle.session_rules.proofs.Scrubs.{scrubs_are_seen as law}
use Rattle.session_rules.proofs.laws_of_sessions.scrubs_are_seen.Goals as goal

pub returns : goal.returns
returns c = law
