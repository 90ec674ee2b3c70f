use Rattle.frame_bytes.proofs.Taken.{requests_are_sent as law}
use Rattle.frame_bytes.proofs.laws_of_frames.requests_are_sent.Goals as goal

pub returns : goal.returns
returns c = law
