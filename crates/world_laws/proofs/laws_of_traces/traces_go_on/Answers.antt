use Rattle.world_laws.proofs.Traces.{traces_go_on as law}
use Rattle.world_laws.proofs.laws_of_traces.traces_go_on.Goals as goal

pub returns : goal.returns
returns c script = law script
