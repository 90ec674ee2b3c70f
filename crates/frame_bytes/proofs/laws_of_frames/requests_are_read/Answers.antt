use Rattle.frame_bytes.proofs.Sent.{requests_are_read as law}
use Rattle.frame_bytes.proofs.laws_of_frames.requests_are_read.Goals as goal

pub returns : goal.returns
returns c = law
