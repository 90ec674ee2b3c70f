use Rattle.session_rules.proofs.Maps.{bytes_are_owed as law}
use Rattle.session_rules.proofs.laws_of_bytes.bytes_are_owed.Goals as goal

pub returns : goal.returns
returns c = law
