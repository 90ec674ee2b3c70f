use Rattle.world_laws.proofs.TraceParts.{tokens_tell_on as law}
use Rattle.world_laws.proofs.laws_of_traces.tokens_tell_on.Goals as goal

pub returns : goal.returns
returns c script = law script
