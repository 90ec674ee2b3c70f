use Rattle.frame_bytes.proofs.Endings.{inputs_end as law}
use Rattle.frame_bytes.proofs.laws_of_frames.inputs_end.Goals as goal

pub returns : goal.returns
returns c = law
