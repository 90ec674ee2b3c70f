use Rattle.client_patch.proofs.Knowing.{more_stamps_are_known}
use Rattle.client_patch.proofs.laws_of_patches.more_stamps_are_known.Goals as goal

pub returns : goal.returns
returns c = more_stamps_are_known
