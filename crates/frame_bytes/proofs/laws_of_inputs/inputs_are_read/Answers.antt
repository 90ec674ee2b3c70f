use Rattle.frame_bytes.proofs.InputLemmas.{inputs_are_read as law}
use Rattle.frame_bytes.proofs.laws_of_inputs.inputs_are_read.Goals as goal

pub returns : goal.returns
returns c = law
