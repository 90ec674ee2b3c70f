use Rattle.world_laws.proofs.Parts.{parts_lead_worlds as law}
use Rattle.world_laws.proofs.laws_of_worlds.parts_lead_worlds.Goals as goal

pub returns : goal.returns
returns c = law
