use Rattle.session_rules.proofs.Maps.{beginnings_are_maps as law}
use Rattle.session_rules.proofs.laws_of_bytes.beginnings_are_maps.Goals as goal

pub returns : goal.returns
returns c = law
