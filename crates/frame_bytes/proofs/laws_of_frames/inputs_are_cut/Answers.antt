use Rattle.frame_bytes.proofs.Cuts.{inputs_are_cut as law}
use Rattle.frame_bytes.proofs.laws_of_frames.inputs_are_cut.Goals as goal

pub returns : goal.returns
returns c = law
