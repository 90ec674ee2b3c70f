use Rattle.session_rules.proofs.HealMaps.{heals_leave_maps as law}
use Rattle.session_rules.proofs.laws_of_bytes.heals_leave_maps.Goals as goal

pub returns : goal.returns
returns c = law
