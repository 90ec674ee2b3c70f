use Rattle.session_rules.proofs.Refused.{refused_puts_are_served as law}
use Rattle.session_rules.proofs.laws_of_sessions.refused_puts_are_served.Goals as goal

pub returns : goal.returns
returns c = law
