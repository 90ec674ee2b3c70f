use Rattle.session_rules.proofs.Restored.{heals_restore_stripes as law}
use Rattle.session_rules.proofs.laws_of_sessions.heals_restore_stripes.Goals as goal

pub returns : goal.returns
returns c = law
