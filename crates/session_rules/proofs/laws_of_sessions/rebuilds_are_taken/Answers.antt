use Rattle.session_rules.proofs.RebuildTakes.{rebuilds_are_taken as law}
use Rattle.session_rules.proofs.laws_of_sessions.rebuilds_are_taken.Goals as goal

pub returns : goal.returns
returns c = law
