use Rattle.frame_bytes.proofs.Cuts.{cuts_are_the_only_ones as law}
use Rattle.frame_bytes.proofs.laws_of_frames.cuts_are_the_only_ones.Goals as goal

pub returns : goal.returns
returns c = law
